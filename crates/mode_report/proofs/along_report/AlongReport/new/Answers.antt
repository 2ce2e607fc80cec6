use Rattle.std.proofs.Common.{◌∙◌, ap}
use Rattle.mode_report.specs.Parts.{parts_of}
use Rattle.mode_report.proofs.AlongReportLemmas.{counted}
use Rattle.mode_report.proofs.along_report.AlongReport.new.Goals as goal

pub returns-clause-fits : goal.returns-clause-fits
returns-clause-fits c =
    let a = c.args.along in
    let irreps = a.file.divided.file.irreps in
    record { held = c.requires; parts = c.in_ok-parts.ensures ∙ ap parts_of (c.deref-2.ensures.value ∙ counted irreps a.orbits a.rows.items c.deref.result.now c.in_ok-counts.counts.items c.deref.ensures.value (c.in_ok-counts.ensures irreps) c.requires) }
