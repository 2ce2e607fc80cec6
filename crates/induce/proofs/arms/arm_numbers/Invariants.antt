use Rattle.induce.specs.Arms.{AreArmsBelow}
use Rattle.induce.proofs.arms.arm_numbers.Given as goal

abbrev pub invariant-loop-i : goal.invariant-loop-i
invariant-loop-i l = AreArmsBelow l.quotient l.star l.arms.items l.i
