use Rattle.list_report.proofs.KeptLemmas.{kept-rise}
use Rattle.list_report.proofs.laws.law_of_kept_lines.Goals as goal

pub returns : goal.returns
returns c = kept-rise
