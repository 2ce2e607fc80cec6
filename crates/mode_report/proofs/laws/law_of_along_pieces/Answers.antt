use Rattle.mode_report.specs.ReportPieces.{along_front, along_told}
use Rattle.mode_report.specs.PartLaws.{pieces-joined}
use Rattle.mode_report.specs.declared.moves.AtomEntries.TheVariants.{Three}
use Rattle.mode_report.proofs.laws.law_of_along_pieces.Goals as goal

pub returns : goal.returns
returns c = λ r. pieces-joined Three (along_front r.along) (along_told r.along)
