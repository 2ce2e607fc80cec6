use Rattle.list_report.proofs.PageJoinLemmas.{pages-joined}
use Rattle.list_report.proofs.laws.law_of_report_pages.Goals as goal

pub returns : goal.returns
returns c = pages-joined c.law_of_pages.ensures
