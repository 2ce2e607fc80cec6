use Rattle.std.specs.Prelude.{[]}
use Rattle.space_ops.specs.Op.{vector_of}
use Rattle.wyckoff.specs.OrbitParts.{IsShifted, IsRowAdded}
use Rattle.wyckoff.proofs.places.push_shifted.Given as goal

abbrev pub invariant-loop-t : goal.invariant-loop-t
invariant-loop-t l = IsRowAdded l.t (IsShifted l.quotient (vector_of l.x)) [] l.fn.places.items l.places.items
