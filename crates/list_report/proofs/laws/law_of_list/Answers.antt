use Rattle.list_report.proofs.ListUniqueLemmas.{list-found}
use Rattle.list_report.proofs.laws.law_of_list.Goals as goal

pub returns : goal.returns
returns c = list-found c.law_of_irreps.ensures.induced c.law_of_listings.ensures
