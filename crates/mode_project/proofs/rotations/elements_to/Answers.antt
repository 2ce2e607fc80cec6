use Rattle.std.proofs.Common.{◌∙◌}
use Rattle.mode_project.proofs.rotations.elements_to.Goals as goal

pub fill_elements-requires-clause-count : goal.fill_elements-requires-clause-count
fill_elements-requires-clause-count c = c.deref_mut.ensures.len ∙ c.in-Ok.ensures.len ∙ c.atoms.ensures.value
