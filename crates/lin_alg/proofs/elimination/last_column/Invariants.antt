use Rattle.std.proofs.Common.{◌≡◌, ℕ, ◌≤◌}
use Rattle.lin_alg.specs.Rows.{vector}
use Rattle.lin_alg.proofs.elimination.last_column.Given as goal

abbrev pub invariant-loop-i : goal.invariant-loop-i
invariant-loop-i g l = (j : ℕ) → l.i ≤ j → vector g.F.Field.field.laws g.F.Field.value l.row j ≡ g.F.Field.field.laws.nought
