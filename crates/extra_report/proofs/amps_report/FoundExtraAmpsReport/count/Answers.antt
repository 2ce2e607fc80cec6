use Rattle.std.proofs.Common.{arith}
use Rattle.report_buffer.specs.PieceLaws.{numbered-count}
use Rattle.report_steps.specs.EachLaws.{each-length}
use Rattle.amp_report.specs.AmpsHeldLaws.{told-length}
use Rattle.amp_report.specs.AmpsReport.{orbit_text}
use Rattle.amp_report.specs.Held.{HasRow, told_in}
use Rattle.extra_report.proofs.amps_report.FoundExtraAmpsReport.count.Goals as goal

pub returns : goal.returns
returns c =
    let f = c.args.self.now in
    let irreps = f.file.divided.file.irreps in
    let one = each-length HasRow f.modes.items f.rows.items c.requires.1 in
    let n = numbered-count orbit_text 1 (told_in irreps f.orbits f.modes.items f.rows.items) in
    let m = told-length irreps f.orbits f.modes.items f.rows.items c.requires.0 one in
    omega (arith, c.len.ensures, f.modes.ok.0, n, m)
