use Rattle.couple_report.proofs.LinkUniqueLemmas.{link-found-one}
use Rattle.couple_report.proofs.laws.law_of_link_found.Goals as goal

pub returns : goal.returns
returns c d h wanted other = link-found-one c.law_of_irreps.ensures.induced c.law_of_listing_steps.ensures.choice d h wanted other
