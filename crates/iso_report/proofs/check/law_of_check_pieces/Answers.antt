use Rattle.iso_report.proofs.ReportLemmas.{check-joined}
use Rattle.iso_report.proofs.check.law_of_check_pieces.Goals as goal

pub returns : goal.returns
returns c = check-joined
