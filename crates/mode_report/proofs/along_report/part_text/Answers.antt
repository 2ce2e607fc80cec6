use Rattle.std.proofs.Common.{◌∙◌, ap, length, sym}
use Rattle.report_steps.specs.EachLaws.{each-length}
use Rattle.mode_report.specs.DirectionHeld.{AreFit, along_in}
use Rattle.mode_report.specs.ReportPieces.{along_told}
use Rattle.mode_report.specs.ToldLaws.{mode-inside}
use Rattle.mode_report.specs.declared.moves.AtomEntries.TheVariants.{Three}
use Rattle.mode_report.proofs.AlongReportLemmas.{along-inside}
use Rattle.mode_report.proofs.along_report.part_text.Goals as goal

pub orbit_part-requires-clause-orbit : goal.orbit_part-requires-clause-orbit
orbit_part-requires-clause-orbit c =
    let a = c.args.along.now in
    let irreps = a.file.divided.file.irreps in
    let h = rw c.in-Orbit.is at c.requires.part in
    let n = each-length (AreFit irreps) a.orbits a.rows.items c.requires.held in
    rw c.as_slice-all.ensures.value (along-inside irreps a.orbits a.rows.items c.in-Orbit.i h.1.0 n h.1.1)

pub mode_part-requires-clause-orbit : goal.mode_part-requires-clause-orbit
mode_part-requires-clause-orbit c =
    let a = c.args.along.now in
    let irreps = a.file.divided.file.irreps in
    let h = rw c.in-Mode.is at c.requires.part in
    let n = each-length (AreFit irreps) a.orbits a.rows.items c.requires.held in
    rw c.as_slice-all.ensures.value (along-inside irreps a.orbits a.rows.items c.in-Mode.i h.1.0 n h.1.1)

pub mode_part-requires-clause-mode : goal.mode_part-requires-clause-mode
mode_part-requires-clause-mode c o s =
    let a = c.args.along.now in
    let h = rw c.in-Mode.is at c.requires.part in
    let irreps = c.irreps-irreps.ensures ∙ (λ j. (c.document.ensures j).irreps) in
    mode-inside Three (along_told a) (along_in c.irreps-irreps.result.now a.orbits c.as_slice-all.result.now) c.in-Mode.i c.in-Mode.m h.0 (λ j. along_in (irreps j) a.orbits (c.as_slice-all.ensures.value j)) h.1 o s

pub orbit_part-requires-clause-orbits : goal.orbit_part-requires-clause-orbits
orbit_part-requires-clause-orbits c =
    let a = c.args.along.now in
    let n = each-length (AreFit a.file.divided.file.irreps) a.orbits a.rows.items c.requires.held in
    n ∙ ap length (sym c.as_slice-all.ensures.value)
