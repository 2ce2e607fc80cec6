use Rattle.std.proofs.Common.{arith}
use Rattle.mode_report.specs.ReportPieces.{along_front, along_told}
use Rattle.mode_report.specs.PartLaws.{parts-count}
use Rattle.mode_report.specs.declared.moves.AtomEntries.TheVariants.{Three}
use Rattle.mode_report.proofs.along_report.AlongReportReport.count.Goals as goal

pub returns : goal.returns
returns c =
    let r = c.args.self.now in
    let n = parts-count Three (along_front r.along) (along_told r.along) r.parts.items c.requires.parts in
    omega (arith, c.len.ensures, r.parts.ok.0, n)
