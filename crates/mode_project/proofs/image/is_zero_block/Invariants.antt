use Rattle.std.proofs.Common.{◌≡◌, ◌<◌, ◌+◌, ℕ}
use Rattle.lin_alg.specs.Rows.{vector}
use Rattle.mode_project.proofs.image.is_zero_block.Given as goal

abbrev pub invariant-loop-b : goal.invariant-loop-b
invariant-loop-b g l =
    let f = g.F.Field.field.laws in
    (k : ℕ) → k < l.b → vector f g.F.Field.value l.row (l.first + k) ≡ f.nought
