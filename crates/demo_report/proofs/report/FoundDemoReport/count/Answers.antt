use Rattle.std.proofs.Common.{arith}
use Rattle.report_buffer.specs.PieceLaws.{numbered-count}
use Rattle.report_steps.specs.EachLaws.{each-length}
use Rattle.mode_report.specs.Held.{HasSizeOf, told_in}
use Rattle.demo_report.specs.DemoReport.{orbit_line}
use Rattle.demo_report.proofs.OrbitLemmas.{told-length}
use Rattle.demo_report.proofs.report.FoundDemoReport.count.Goals as goal

pub returns : goal.returns
returns c =
    let x = c.args.self.now in
    let irreps = x.file.divided.file.irreps in
    let orbits = x.modes.orbits in
    let all = x.modes.modes.items in
    let one = each-length HasSizeOf orbits all c.requires in
    let n = numbered-count orbit_line 1 (told_in irreps orbits all) in
    let m = told-length irreps orbits all one in
    omega (arith, c.len.ensures, x.modes.modes.ok.0, n, m)
