use Rattle.mode_project.specs.AtomSpace.{space_of}
use Rattle.mode_project.proofs.basis.long_modes.Given as goal

abbrev pub ghosts-quantity_modes : goal.ghosts-quantity_modes
ghosts-quantity_modes g a = record { space = space_of a.quotient.now a.orbit.now (g.K.AtomQuantity.quantity a.kind.now) }
