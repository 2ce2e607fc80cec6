use Rattle.mode_report.proofs.AlongUniqueLemmas.{along-one}
use Rattle.mode_report.proofs.laws.law_of_modes_along.Goals as goal

pub returns : goal.returns
returns c d q =
    let steps = c.law_of_listing_steps.ensures in
    along-one d (c.law_of_irreps.ensures.induced d.quotient q) (λ atom o u. c.law_of_one_orbit.ensures d.quotient atom o u q) c.law_of_one_basis.ensures.direction steps.subspaces steps.directions steps.form steps.twins steps.choice q
