use Rattle.std.proofs.Common.{◌≡◌, ◌<◌, ℕ}
use Rattle.lin_alg.specs.Rows.{vector}
use Rattle.lin_alg.proofs.solving.is_zero.Given as goal

abbrev pub invariant-loop-x : goal.invariant-loop-x
invariant-loop-x g l = (j : ℕ) → j < l.x-index → vector g.F.Field.field.laws g.F.Field.value l.row j ≡ g.F.Field.field.laws.nought
