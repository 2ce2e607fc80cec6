use Rattle.std.proofs.Common.{arith}
use Rattle.std.proofs.lemmas.Result.{IfOk-weaker}
use Rattle.report_buffer.specs.PieceLaws.{behind-first, numbered-count}
use Rattle.report_steps.specs.EachLaws.{each-length}
use Rattle.mode_report.specs.Held.{HasSizeOf, told_in}
use Rattle.demo_report.specs.DemoPieces.{front_of, orbit_pieces}
use Rattle.demo_report.specs.DemoReport.{orbit_line}
use Rattle.demo_report.proofs.OrbitLemmas.{told-length}
use Rattle.demo_report.proofs.report.FoundDemoReport.piece.Goals as goal

pub found_piece-requires-clause-orbit : goal.found_piece-requires-clause-orbit
found_piece-requires-clause-orbit c =
    let x = c.args.self.now in
    let irreps = x.file.divided.file.irreps in
    let orbits = x.modes.orbits in
    let all = x.modes.modes.items in
    let one = each-length HasSizeOf orbits all c.requires.fits in
    let n = numbered-count orbit_line 1 (told_in irreps orbits all) in
    let m = told-length irreps orbits all one in
    omega (arith, c.requires.place, n, m)

pub returns : goal.returns
returns c =
    let x = c.args.self.now in
    IfOk-weaker c.found_piece.result _ _ (λ text h. behind-first (front_of x) (orbit_pieces x) c.args.number text (omega arith) h) c.found_piece.ensures
