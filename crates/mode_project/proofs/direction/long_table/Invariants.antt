use Rattle.mode_project.specs.AtomSpace.{displacements}
use Rattle.mode_project.proofs.direction.long_table.Given as goal

abbrev pub ghosts-displaced_form : goal.ghosts-displaced_form
ghosts-displaced_form a = record { space = displacements a.quotient.now a.orbit.now }
