use Rattle.std.proofs.Common.{◌≡◌, ◌∙◌, List, IfOk, map, subst, Some, slice_get}
use Rattle.std.specs.List.{enumerate_from}
use Rattle.amp_report.specs.AmpsReport.{OrbitAmplitudes, orbit_text}
use Rattle.amp_report.specs.Held.{told_in}
use Rattle.extra_report.proofs.amps_report.amps_piece.Goals as goal

pub returns : goal.returns
returns c =
    let f = c.args.found.now in
    let irreps = c.irreps.ensures ∙ (λ j. (c.document.ensures j).irreps) in
    let P : List OrbitAmplitudes → Type 0 = λ xs. IfOk c.orbit_piece.result (λ text. slice_get (map orbit_text (enumerate_from 1 xs)) c.args.i ≡ Some text) in
    subst P (λ j. told_in (irreps j) f.orbits (c.deref.ensures.value j) (c.deref-2.ensures.value j)) c.orbit_piece.ensures
