use Rattle.std.proofs.Common.{arith}
use Rattle.mode_report.specs.PartLaws.{parts-count}
use Rattle.extra_report.specs.ExtraPieces.{extra_front, extra_told}
use Rattle.extra_report.specs.ExtraReport.{entries_of}
use Rattle.extra_report.proofs.report.ExtraReportReport.count.Goals as goal

pub returns : goal.returns
returns c =
    let r = c.args.self.now in
    let n = parts-count (entries_of r.found.nature) (extra_front r.found) (extra_told r.found) r.parts.items c.requires.parts in
    omega (arith, c.len.ensures, r.parts.ok.0, n)
