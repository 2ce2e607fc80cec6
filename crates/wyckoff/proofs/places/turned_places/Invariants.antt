use Rattle.std.specs.Prelude.{[]}
use Rattle.space_ops.specs.Op.{vector_of}
use Rattle.wyckoff.specs.OrbitParts.{IsTurned, IsRowAdded}
use Rattle.wyckoff.proofs.places.turned_places.Given as goal

abbrev pub invariant-loop-r : goal.invariant-loop-r
invariant-loop-r l = IsRowAdded l.r (IsTurned l.quotient (vector_of l.x)) [] [] l.places.items
