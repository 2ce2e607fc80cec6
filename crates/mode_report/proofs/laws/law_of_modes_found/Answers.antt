use Rattle.mode_project.specs.AtomSpace.{displacements}
use Rattle.mode_report.proofs.UniqueLemmas.{told-single}
use Rattle.mode_report.proofs.laws.law_of_modes_found.Goals as goal

pub returns : goal.returns
returns c d q = told-single displacements d (c.law_of_irreps.ensures.induced d.quotient q) (λ atom o u. c.law_of_one_orbit.ensures d.quotient atom o u q) c.law_of_one_basis.ensures.modes
