use Rattle.space_ops.specs.Op.{vector_of}
use Rattle.distort_match.specs.FoundParts.{IsAtomBelow, IsFound}
use Rattle.distort_match.proofs.found.found_between.Given as goal

abbrev pub invariant-loop-i : goal.invariant-loop-i
invariant-loop-i l = IsFound (IsAtomBelow l.d l.tolerance (vector_of l.x) l.o l.orbit.places l.i) l.found
