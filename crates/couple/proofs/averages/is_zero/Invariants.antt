use Rattle.std.proofs.Common.{◌≡◌, ◌<◌, ◌/◌, ◌%◌, ℕ}
use Rattle.lin_alg.specs.Matrix.{entry}
use Rattle.couple.proofs.averages.is_zero.Given as goal

abbrev pub invariant-loop-p : goal.invariant-loop-p
invariant-loop-p g l =
    let f = g.F.Field.field in
    let v = g.F.Field.value in
    (p : ℕ) → p < l.p → entry f.laws v l.sums (p / l.cols) (p % l.cols) ≡ f.laws.nought
