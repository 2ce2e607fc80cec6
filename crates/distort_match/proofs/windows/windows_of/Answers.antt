use Rattle.std.proofs.Common.{◌≡◌, ◌∙◌, ℕ, ◌*◌, ℤ, pos, ◌*ℤ◌, ◌≤ℤ◌, ◌<ℤ◌, to_z, of_z, w64, rules, arith}
use Rattle.std.proofs.lemmas.Int.{ints, to_z-of_z}
use Rattle.std.specs.Int.{int_rem_euclid}
use Rattle.algebra.specs.PassedLaws.{passed, passed-from, passed-to}
use Rattle.distort_match.specs.WindowParts.{AreWindows}
use Rattle.distort_match.proofs.WindowLemmas.{windows_are}
use Rattle.distort_match.proofs.windows.windows_of.Goals as goal

pub returns : goal.returns
returns c =
    let n : ℕ = 12000000 * c.args.multiplier in
    let t : ℤ = passed w64 c.args.tolerance in
    let length : to_z w64 (of_z w64 (pos 12000000 *ℤ to_z w64 (of_z w64 c.from-length.result))) ≡ pos n = omega (arith, ints, c.from-length.ensures, c.requires.few) in
    let rest = to_z-of_z w64 c.rem_euclid.result (search rules) ∙ c.rem_euclid.ensures.value ∙ (λ i. int_rem_euclid (to_z-of_z w64 c.args.x c.ranges.x i) (length i)) in
    passed-from w64 (λ (t : ℤ). AreWindows (12000000 * c.args.multiplier) t c.args.x c.args.orbit.now.places c.windows_at.result) c.args.tolerance c.ranges.tolerance
    (windows_are n (omega (arith, c.requires.positive)) c.args.x t (passed-to w64 (λ (t : ℤ). pos 0 ≤ℤ t) c.args.tolerance c.ranges.tolerance c.requires.some)
    (passed-to w64 (λ (t : ℤ). t <ℤ pos 3000000) c.args.tolerance c.ranges.tolerance c.requires.small) c.args.orbit.now.places c.requires.inside c.windows_at.result _ _ rest length
    c.windows_at.ensures.low c.windows_at.ensures.start c.windows_at.ensures.end c.windows_at.ensures.high)
