use Rattle.couple_report.proofs.JoinLemmas.{couple-joined}
use Rattle.couple_report.proofs.laws.law_of_couple_pieces.Goals as goal

pub returns : goal.returns
returns c = couple-joined
