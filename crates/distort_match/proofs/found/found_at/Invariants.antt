use Rattle.space_ops.specs.Op.{vector_of}
use Rattle.distort_match.specs.FoundParts.{IsAtomOf, IsFound}
use Rattle.distort_match.proofs.found.found_at.Given as goal

abbrev pub invariant-loop-o : goal.invariant-loop-o
invariant-loop-o l = IsFound (IsAtomOf l.d l.tolerance (vector_of l.x) l.label l.orbits l.o) l.found
