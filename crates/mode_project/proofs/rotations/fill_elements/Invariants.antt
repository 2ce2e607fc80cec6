use Rattle.super_group.specs.Quotient.{order_of}
use Rattle.mode_project.proofs.RotationLemmas.{AreReached}
use Rattle.mode_project.proofs.rotations.fill_elements.Given as goal

abbrev pub invariant-loop-q : goal.invariant-loop-q
invariant-loop-q l = AreReached (order_of l.quotient) l.orbit l.elements l.q
