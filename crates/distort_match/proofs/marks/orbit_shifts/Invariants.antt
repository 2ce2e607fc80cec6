use Rattle.distort_match.specs.MarkParts.{AreAllMarked}
use Rattle.distort_match.proofs.marks.orbit_shifts.Given as goal

abbrev pub invariant-loop-i : goal.invariant-loop-i
invariant-loop-i l = AreAllMarked l.marks l.i l.shifts.items
