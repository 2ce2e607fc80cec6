use Rattle.mode_project.proofs.RotationLemmas.{AreTurned}
use Rattle.mode_project.proofs.rotations.turns_of.Given as goal

abbrev pub invariant-loop-r : goal.invariant-loop-r
invariant-loop-r g l = AreTurned (g.K.AtomQuantity.quantity l.kind) l.quotient.parent.ops l.matrices.items l.r
