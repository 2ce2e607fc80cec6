use Rattle.mode_report.specs.ModesReport.{head_text}
use Rattle.mode_report.specs.ReportPieces.{modes_told}
use Rattle.mode_report.specs.PartLaws.{pieces-joined}
use Rattle.mode_report.specs.declared.moves.AtomEntries.TheVariants.{Three}
use Rattle.mode_report.proofs.laws.law_of_modes_pieces.Goals as goal

pub returns : goal.returns
returns c = λ r. pieces-joined Three (head_text r.file.divided.file.format) (modes_told r)
