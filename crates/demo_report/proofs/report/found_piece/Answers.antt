use Rattle.std.proofs.Common.{◌≡◌, List, IfOk, map, subst, Some, slice_get}
use Rattle.std.specs.List.{enumerate_from}
use Rattle.std.proofs.lemmas.Result.{IfOk-weaker}
use Rattle.mode_project.specs.ModesView.{ModesView}
use Rattle.mode_report.specs.Held.{told_in}
use Rattle.demo_report.specs.DemoReport.{orbit_line}
use Rattle.demo_report.proofs.report.found_piece.Goals as goal

pub returns : goal.returns
returns c =
    let x = c.args.found.now in
    let irreps = x.file.divided.file.irreps in
    let P : List ModesView → Type 0 = λ all. IfOk c.orbit_piece.result (λ text. slice_get (map orbit_line (enumerate_from 1 (told_in irreps x.modes.orbits all))) c.args.i ≡ Some text) in
    subst P c.deref.ensures.value (IfOk-weaker c.orbit_piece.result _ _ (λ text h. h irreps) c.orbit_piece.ensures)
