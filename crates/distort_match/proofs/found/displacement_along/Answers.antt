use Rattle.std.proofs.Common.{◌≡◌, ◌∙◌, ℕ, ◌*◌, pos, neg_ℤ, ◌+ℤ◌, ◌-ℤ◌, ◌*ℤ◌, to_z, of_z, w64, rules, arith}
use Rattle.std.proofs.lemmas.Int.{ints, to_z-of_z}
use Rattle.std.specs.Int.{int_rem_euclid}
use Rattle.algebra.specs.PassedLaws.{passed-from}
use Rattle.distort_match.specs.FoundParts.{IsNearestOf}
use Rattle.distort_match.proofs.AlongLemmas.{along_found}
use Rattle.distort_match.proofs.found.displacement_along.Goals as goal

pub returns : goal.returns
returns c =
    let n : ℕ = 12000000 * c.args.multiplier in
    let length : to_z w64 (of_z w64 (pos 12000000 *ℤ to_z w64 (of_z w64 c.from-length.result))) ≡ pos n = omega (arith, ints, c.from-length.ensures, c.requires.few) in
    let difference : to_z w64 (of_z w64 (to_z w64 (of_z w64 c.args.x) -ℤ to_z w64 (of_z w64 c.args.a))) ≡ c.args.x +ℤ neg_ℤ c.args.a =
    omega (arith, ints, c.requires.place.0, c.requires.place.1, c.requires.atom.0, c.requires.atom.1) in
    along_found n (omega (arith, c.requires.positive)) c.args.x c.args.a c.args.tolerance c.requires.some c.requires.small _ _ length
    (to_z-of_z w64 c.rem_euclid.result (search rules) ∙ c.rem_euclid.ensures.value ∙ (λ i. int_rem_euclid (difference i) (length i))) c.nearest.result
    (passed-from w64 (λ t. IsNearestOf (to_z w64 (of_z w64 (pos 12000000 *ℤ to_z w64 (of_z w64 c.from-length.result)))) t (to_z w64 (of_z w64 c.rem_euclid.result)) c.nearest.result) c.args.tolerance c.ranges.tolerance c.nearest.ensures)
