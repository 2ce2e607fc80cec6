use Rattle.std.proofs.Common.{ap, ◌++◌}
use Rattle.std.specs.List.{enumerate_from}
use Rattle.report_buffer.specs.PieceLaws.{made-joined}
use Rattle.amp_report.specs.AmpsReport.{head_text, orbit_text}
use Rattle.amp_report.specs.Held.{told_in}
use Rattle.amp_report.proofs.laws.law_of_amps_pieces.Goals as goal

pub returns : goal.returns
returns c = λ f.
    let told = told_in f.file.divided.file.irreps f.orbits f.modes.items f.rows.items in
    ap (λ t. head_text f.file.divided.file.format ++ t) (made-joined orbit_text (enumerate_from 1 told))
