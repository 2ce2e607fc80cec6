use Rattle.std.proofs.Common.{◌∙◌, ap, List, map}
use Rattle.mode_project.specs.ModesView.{ModesView, count_in}
use Rattle.report_steps.specs.EachLaws.{each-length}
use Rattle.mode_report.specs.Held.{HasSizeOf}
use Rattle.mode_report.specs.Parts.{parts_of}
use Rattle.mode_report.specs.ToldLaws.{counts-told}
use Rattle.mode_report.proofs.report.ModesReport.new.Goals as goal

pub returns-clause-fits : goal.returns-clause-fits
returns-clause-fits c =
    let found = c.args.found in
    let n = each-length HasSizeOf found.orbits found.modes.items c.requires in
    let counts = ap (λ (xs : List ModesView). map count_in xs) c.deref.ensures.value in
    record { sizes = c.requires; parts = c.in_ok-parts.ensures ∙ ap parts_of (counts ∙ counts-told c.args.file.divided.file.irreps found.orbits found.modes.items n) }
