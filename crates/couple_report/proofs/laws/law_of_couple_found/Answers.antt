use Rattle.couple_report.proofs.CoupleUniqueLemmas.{couple-found-one}
use Rattle.couple_report.proofs.laws.law_of_couple_found.Goals as goal

pub returns : goal.returns
returns c d h wanted other after count =
    let steps = c.law_of_listing_steps.ensures in
    couple-found-one c.law_of_pairs.ensures.action steps.subspaces steps.directions steps.form steps.twins steps.choice d h wanted other after count
