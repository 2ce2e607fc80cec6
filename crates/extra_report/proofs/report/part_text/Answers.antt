use Rattle.std.proofs.Common.{◌∙◌, ap, ◌<◌, List, length, subst, sym}
use Rattle.mode_project.specs.ModesView.{ModesView}
use Rattle.report_steps.specs.EachLaws.{each-length}
use Rattle.mode_report.specs.Held.{HasSizeBy, told_in}
use Rattle.mode_report.specs.ModesReport.{each_of}
use Rattle.mode_report.specs.ToldLaws.{mode-inside, told-inside}
use Rattle.extra_report.specs.ExtraPieces.{extra_told}
use Rattle.extra_report.specs.ExtraReport.{entries_of}
use Rattle.extra_report.proofs.report.part_text.Goals as goal

pub orbit_part-requires-clause-count : goal.orbit_part-requires-clause-count
orbit_part-requires-clause-count c =
    let f = c.args.found.now in
    each-length (HasSizeBy (each_of (entries_of f.nature))) f.orbits f.modes.items c.requires.held ∙ ap length (sym c.as_slice-all.ensures.value)

pub orbit_part-requires-clause-orbit : goal.orbit_part-requires-clause-orbit
orbit_part-requires-clause-orbit c =
    let f = c.args.found.now in
    let h = rw c.in-Orbit.is at c.requires.part in
    let n = each-length (HasSizeBy (each_of (entries_of f.nature))) f.orbits f.modes.items c.requires.held in
    let P : List ModesView → Type 0 = λ xs. c.in-Orbit.i < length xs in
    subst P (sym c.as_slice-all.ensures.value) (told-inside f.file.divided.file.irreps f.orbits f.modes.items c.in-Orbit.i h.1.0 n h.1.1)

pub mode_part-requires-clause-orbit : goal.mode_part-requires-clause-orbit
mode_part-requires-clause-orbit c =
    let f = c.args.found.now in
    let h = rw c.in-Mode.is at c.requires.part in
    let n = each-length (HasSizeBy (each_of (entries_of f.nature))) f.orbits f.modes.items c.requires.held in
    let P : List ModesView → Type 0 = λ xs. c.in-Mode.i < length xs in
    subst P (sym c.as_slice-all.ensures.value) (told-inside f.file.divided.file.irreps f.orbits f.modes.items c.in-Mode.i h.1.0 n h.1.1)

pub mode_part-requires-clause-mode : goal.mode_part-requires-clause-mode
mode_part-requires-clause-mode c o s =
    let f = c.args.found.now in
    let h = rw c.in-Mode.is at c.requires.part in
    let irreps = c.irreps-irreps.ensures ∙ (λ j. (c.document.ensures j).irreps) in
    mode-inside (entries_of f.nature) (extra_told f) (told_in c.irreps-irreps.result.now f.orbits c.as_slice-all.result.now) c.in-Mode.i c.in-Mode.m h.0 (λ j. told_in (irreps j) f.orbits (c.as_slice-all.ensures.value j)) h.1 o s
