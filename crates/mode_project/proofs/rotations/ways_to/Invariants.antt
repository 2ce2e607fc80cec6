use Rattle.mode_project.specs.AtomSpace.{Quantity, space_of}
use Rattle.mode_project.specs.Turns.{AreWays}
use Rattle.mode_project.proofs.rotations.ways_to.Given as goal

abbrev pub invariant-loop-i : goal.invariant-loop-i
invariant-loop-i l = (k : Quantity) → AreWays (space_of l.quotient l.orbit k) l.ways.items l.i
