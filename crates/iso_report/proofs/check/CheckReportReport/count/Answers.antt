use Rattle.std.proofs.Common.{arith}
use Rattle.report_steps.specs.Held.{facts_in, IsInducedHeld}
use Rattle.iso_report.proofs.ReportLemmas.{pieces-count}
use Rattle.iso_report.proofs.check.CheckReportReport.count.Goals as goal

pub returns : goal.returns
returns c =
    let f = c.args.self.now.file in
    let n = pieces-count f.divided.quotient.parent facts_in (IsInducedHeld f.divided.quotient) f.divided.file.irreps f.irreps.items c.requires in
    omega (arith, c.len.ensures, f.irreps.ok.0, n)
