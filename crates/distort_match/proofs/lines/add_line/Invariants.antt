use Rattle.distort_match.specs.Matches.{Matching}
use Rattle.distort_match.specs.FrameParts.{IsMatchingIn}
use Rattle.distort_match.specs.MarkParts.{AreMarksFor, AreMarked}
use Rattle.distort_match.proofs.lines.add_line.Given as goal

abbrev pub invariant-loop-t : goal.invariant-loop-t
invariant-loop-t l =
    AreMarksFor l.orbits l.marks.items
    × ((m : Matching) → IsMatchingIn l.d l.orbits l.listed l.tolerance l.frame m → AreMarked m l.n 0 l.fn.marks.items → AreMarked m l.n l.t l.marks.items)
