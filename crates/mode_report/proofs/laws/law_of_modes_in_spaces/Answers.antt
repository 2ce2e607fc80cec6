use Rattle.mode_report.proofs.UniqueLemmas.{told-single}
use Rattle.mode_report.proofs.laws.law_of_modes_in_spaces.Goals as goal

pub returns : goal.returns
returns c space d q alike = told-single space d (c.law_of_irreps.ensures.induced d.quotient q) alike c.law_of_one_basis.ensures.modes
