use Rattle.std.proofs.Common.{◌≡◌, ℕ, ◌≤◌, min, sym, ◌∙◌, length, arith}
use Rattle.std.proofs.Math.Nat.{min-le_left, min-le_right}
use Rattle.std.specs.Cmp.Lexicographic.{slice_cmp}
use Rattle.std.specs.Ordering.{on}
use Rattle.lin_alg.proofs.CompareLemmas.{cmp-ended, some_ends}
use Rattle.lin_alg.proofs.echelon.compare.cmp_lines.Goals as goal

pub returns : goal.returns
returns g c =
    let i : ℕ = c.loop-i.i in
    let n : ℕ = length c.args.a.now in
    let m : ℕ = length c.args.b.now in
    let end : i ≡ min n m = omega (arith, c.loop-i-test.false, c.loop-i.auto.i-end, c.min-i-end.ensures) in
    let left : i ≤ n = omega (arith, end, min-le_left n m) in
    let right : i ≤ m = omega (arith, end, min-le_right n m) in
    c.cmp-2.ensures
    ∙ sym (c.loop-i.invariant ∙ cmp-ended (λ r. (r.0, r.1.items)) (on (λ r. r.1) (slice_cmp g.F.Ord.cmp)) c.args.a.now c.args.b.now i left right (some_ends n m i (sym end)))
