use Rattle.class_list.proofs.PageLemmas.{pages-numbered}
use Rattle.class_list.proofs.laws.law_of_pages.Goals as goal

pub returns : goal.returns
returns g c = pages-numbered
