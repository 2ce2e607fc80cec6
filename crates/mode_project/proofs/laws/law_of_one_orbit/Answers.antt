use Rattle.mode_project.specs.AtomSpace.{polar_vector}
use Rattle.mode_project.proofs.laws.law_of_one_orbit.Goals as goal

pub returns : goal.returns
returns c g atom o u = c.law_of_one_space.ensures g atom o u polar_vector
