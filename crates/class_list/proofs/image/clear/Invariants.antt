use Rattle.std.proofs.Common.{ℕ, ◌<◌, ◌≡◌}
use Rattle.lin_alg.specs.Rows.{vector}
use Rattle.class_list.proofs.image.clear.Given as goal

abbrev pub invariant-loop-j : goal.invariant-loop-j
invariant-loop-j g l = (k : ℕ) → k < l.j → vector g.F.Field.field.laws g.F.Field.value l.row k ≡ g.F.Field.field.laws.nought
