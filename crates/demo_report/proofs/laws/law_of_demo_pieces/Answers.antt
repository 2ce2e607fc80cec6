use Rattle.std.proofs.Common.{ap, ◌++◌}
use Rattle.std.specs.List.{enumerate_from}
use Rattle.report_buffer.specs.PieceLaws.{made-joined}
use Rattle.mode_report.specs.Held.{told_in}
use Rattle.demo_report.specs.DemoPieces.{front_of}
use Rattle.demo_report.specs.DemoReport.{orbit_line}
use Rattle.demo_report.proofs.laws.law_of_demo_pieces.Goals as goal

pub returns : goal.returns
returns c = λ x.
    let told = told_in x.file.divided.file.irreps x.modes.orbits x.modes.modes.items in
    ap (λ t. front_of x ++ t) (made-joined orbit_line (enumerate_from 1 told))
