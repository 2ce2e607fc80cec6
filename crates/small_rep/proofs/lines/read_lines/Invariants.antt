use Rattle.small_rep.specs.LinesRead.{AreRead}
use Rattle.small_rep.proofs.lines.read_lines.Given as goal

abbrev pub invariant-loop-mat : goal.invariant-loop-mat
invariant-loop-mat l = AreRead l.group l.star l.size l.mats l.mat-index l.rotations.items l.matrices.items
