use Rattle.std.proofs.Common.{arith}
use Rattle.mode_report.specs.ModesReport.{head_text}
use Rattle.mode_report.specs.ReportPieces.{modes_told}
use Rattle.mode_report.specs.PartLaws.{parts-count}
use Rattle.mode_report.specs.declared.moves.AtomEntries.TheVariants.{Three}
use Rattle.mode_report.proofs.report.ModesReportReport.count.Goals as goal

pub returns : goal.returns
returns c =
    let r = c.args.self.now in
    let n = parts-count Three (head_text r.file.divided.file.format) (modes_told r) r.parts.items c.requires.parts in
    omega (arith, c.len.ensures, r.parts.ok.0, n)
