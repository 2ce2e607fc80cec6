use Rattle.std.proofs.Common.{◌∙◌, ap, List, map}
use Rattle.mode_project.specs.ModesView.{ModesView, count_in}
use Rattle.report_steps.specs.EachLaws.{each-length}
use Rattle.mode_report.specs.Held.{HasSizeBy}
use Rattle.mode_report.specs.ModesReport.{each_of}
use Rattle.mode_report.specs.Parts.{parts_of}
use Rattle.mode_report.specs.ToldLaws.{counts-told}
use Rattle.extra_report.specs.ExtraReport.{entries_of}
use Rattle.extra_report.proofs.report.ExtraReport.new.Goals as goal

pub returns-clause-fits : goal.returns-clause-fits
returns-clause-fits c =
    let f = c.args.found in
    let n = each-length (HasSizeBy (each_of (entries_of f.nature))) f.orbits f.modes.items c.requires in
    let counts = ap (λ (xs : List ModesView). map count_in xs) c.deref.ensures.value in
    record { held = c.requires; parts = c.in_ok-parts.ensures ∙ ap parts_of (counts ∙ counts-told f.file.divided.file.irreps f.orbits f.modes.items n) }
