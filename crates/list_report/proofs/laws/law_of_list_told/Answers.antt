use Rattle.list_report.proofs.ToldOneLemmas.{told-found}
use Rattle.list_report.proofs.laws.law_of_list_told.Goals as goal

pub returns : goal.returns
returns c = told-found c.law_of_irreps.ensures.induced c.law_of_listings.ensures c.law_of_told_pages.ensures.once
