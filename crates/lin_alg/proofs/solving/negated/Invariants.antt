use Rattle.std.proofs.Common.{◌≡◌, ◌<◌, ℕ, vec_len}
use Rattle.lin_alg.specs.Rows.{vector}
use Rattle.lin_alg.proofs.solving.negated.Given as goal

abbrev pub invariant-loop-x : goal.invariant-loop-x
invariant-loop-x g l =
    (vec_len l.entries ≡ l.x-index)
    × ((j : ℕ) → j < l.x-index → vector g.F.Field.field.laws g.F.Field.value l.entries.items j ≡ g.F.Field.field.laws.neg (vector g.F.Field.field.laws g.F.Field.value l.row j))
