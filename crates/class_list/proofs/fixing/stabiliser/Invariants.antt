use Rattle.std.proofs.Common.{vec_len, ◌≡◌}
use Rattle.lin_alg.specs.Echelon.{IsSolution}
use Rattle.lin_alg.specs.Action.{IsFixed}
use Rattle.lin_alg.specs.Fixed.{FixesAll}
use Rattle.algebra.specs.RisingLists.{IsRisingListOf}
use Rattle.class_list.proofs.fixing.stabiliser.Given as goal

abbrev pub invariant-loop-q : goal.invariant-loop-q
invariant-loop-q g l =
    IsRisingListOf l.q (FixesAll (IsFixed g.F.Field.field.laws (g.G.Acts.action l.acts)) (IsSolution g.F.Field.field.laws g.F.Field.value l.equations)) l.members.items
    × (vec_len l.row ≡ (g.G.Acts.action l.acts).dim)
