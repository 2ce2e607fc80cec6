use Rattle.std.proofs.Common.{arith}
use Rattle.std.proofs.lemmas.Result.{IfOk-weaker}
use Rattle.report_buffer.specs.PieceLaws.{behind-first, numbered-count}
use Rattle.report_steps.specs.EachLaws.{each-length}
use Rattle.amp_report.specs.AmpsHeldLaws.{told-length}
use Rattle.amp_report.specs.AmpsReport.{orbit_text}
use Rattle.amp_report.specs.Held.{HasRow, told_in}
use Rattle.extra_report.specs.ExtraAmpsPieces.{amps_head, orbit_pieces}
use Rattle.extra_report.proofs.amps_report.FoundExtraAmpsReport.piece.Goals as goal

pub amps_piece-requires-clause-orbit : goal.amps_piece-requires-clause-orbit
amps_piece-requires-clause-orbit c =
    let f = c.args.self.now in
    let irreps = f.file.divided.file.irreps in
    let one = each-length HasRow f.modes.items f.rows.items c.requires.fits.1 in
    let n = numbered-count orbit_text 1 (told_in irreps f.orbits f.modes.items f.rows.items) in
    let m = told-length irreps f.orbits f.modes.items f.rows.items c.requires.fits.0 one in
    omega (arith, c.requires.place, n, m)

pub returns : goal.returns
returns c =
    let f = c.args.self.now in
    IfOk-weaker c.amps_piece.result _ _ (λ text h. behind-first (amps_head f) (orbit_pieces f) c.args.number text (omega arith) h) c.amps_piece.ensures
