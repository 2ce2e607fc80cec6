use Rattle.distort_match.proofs.FinishLemmas.{AreFreeBefore}
use Rattle.distort_match.proofs.marks.no_marks.Given as goal

abbrev pub invariant-loop-o : goal.invariant-loop-o
invariant-loop-o l = AreFreeBefore l.orbits l.o l.marks.items
