use Rattle.distort_match.proofs.FinishLemmas.{AreShiftsBefore}
use Rattle.distort_match.proofs.marks.shifts_of.Given as goal

abbrev pub invariant-loop-o : goal.invariant-loop-o
invariant-loop-o l = AreShiftsBefore l.orbits l.marks l.o l.shifts.items
