use Rattle.mode_project.specs.AtomSpace.{polar_vector}
use Rattle.mode_project.specs.QuantityLaws.{polar-lawful}
use Rattle.mode_project.proofs.laws.law_of_displacements.Goals as goal

pub returns : goal.returns
returns c g o h orbit = c.law_of_spaces.ensures g o polar_vector h orbit polar-lawful
