use Rattle.std.proofs.Common.{◌∙◌, ap, ◌<◌, List, length, subst, sym}
use Rattle.mode_project.specs.ModesView.{ModesView}
use Rattle.report_steps.specs.EachLaws.{each-length}
use Rattle.mode_report.specs.Held.{HasSizeOf, told_in}
use Rattle.mode_report.specs.ReportPieces.{modes_told}
use Rattle.mode_report.specs.ToldLaws.{mode-inside, told-inside}
use Rattle.mode_report.specs.declared.moves.AtomEntries.TheVariants.{Three}
use Rattle.mode_report.proofs.report.part_text.Goals as goal

pub orbit_part-requires-clause-orbit : goal.orbit_part-requires-clause-orbit
orbit_part-requires-clause-orbit c =
    let r = c.args.report.now in
    let h = rw c.in-Orbit.is at c.requires.part in
    let n = each-length HasSizeOf r.found.orbits r.found.modes.items c.requires.fits.sizes in
    let P : List ModesView → Type 0 = λ xs. c.in-Orbit.i < length xs in
    subst P (sym c.as_slice-all.ensures.value) (told-inside r.file.divided.file.irreps r.found.orbits r.found.modes.items c.in-Orbit.i h.1.0 n h.1.1)

pub mode_part-requires-clause-orbit : goal.mode_part-requires-clause-orbit
mode_part-requires-clause-orbit c =
    let r = c.args.report.now in
    let h = rw c.in-Mode.is at c.requires.part in
    let n = each-length HasSizeOf r.found.orbits r.found.modes.items c.requires.fits.sizes in
    let P : List ModesView → Type 0 = λ xs. c.in-Mode.i < length xs in
    subst P (sym c.as_slice-all.ensures.value) (told-inside r.file.divided.file.irreps r.found.orbits r.found.modes.items c.in-Mode.i h.1.0 n h.1.1)

pub mode_part-requires-clause-mode : goal.mode_part-requires-clause-mode
mode_part-requires-clause-mode c o s =
    let r = c.args.report.now in
    let h = rw c.in-Mode.is at c.requires.part in
    let irreps = c.irreps.ensures ∙ (λ j. (c.document-document.ensures j).irreps) in
    mode-inside Three (modes_told r) (told_in c.irreps.result.now r.found.orbits c.as_slice-all.result.now) c.in-Mode.i c.in-Mode.m h.0 (λ j. told_in (irreps j) r.found.orbits (c.as_slice-all.ensures.value j)) h.1 o s

pub orbit_part-requires-clause-count : goal.orbit_part-requires-clause-count
orbit_part-requires-clause-count c =
    let r = c.args.report.now in
    each-length HasSizeOf r.found.orbits r.found.modes.items c.requires.fits.sizes ∙ ap length (sym c.as_slice-all.ensures.value)
