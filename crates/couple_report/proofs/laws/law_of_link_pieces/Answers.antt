use Rattle.couple_report.proofs.JoinLemmas.{link-joined}
use Rattle.couple_report.proofs.laws.law_of_link_pieces.Goals as goal

pub returns : goal.returns
returns c = link-joined
