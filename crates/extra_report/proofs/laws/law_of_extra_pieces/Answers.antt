use Rattle.mode_report.specs.PartLaws.{pieces-joined}
use Rattle.extra_report.specs.ExtraPieces.{extra_front, extra_told}
use Rattle.extra_report.specs.ExtraReport.{entries_of}
use Rattle.extra_report.proofs.laws.law_of_extra_pieces.Goals as goal

pub returns : goal.returns
returns c = λ r. pieces-joined (entries_of r.found.nature) (extra_front r.found) (extra_told r.found)
