use Rattle.list_report.proofs.TellingLemmas.{told-joined}
use Rattle.list_report.proofs.laws.law_of_told_pieces.Goals as goal

pub returns : goal.returns
returns c = told-joined
