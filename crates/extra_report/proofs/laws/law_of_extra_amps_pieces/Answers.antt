use Rattle.std.proofs.Common.{ap, ◌++◌}
use Rattle.std.specs.List.{enumerate_from}
use Rattle.report_buffer.specs.PieceLaws.{made-joined}
use Rattle.amp_report.specs.AmpsReport.{orbit_text}
use Rattle.amp_report.specs.Held.{told_in}
use Rattle.extra_report.specs.ExtraAmpsPieces.{amps_head}
use Rattle.extra_report.proofs.laws.law_of_extra_amps_pieces.Goals as goal

pub returns : goal.returns
returns c = λ f.
    let told = told_in f.file.divided.file.irreps f.orbits f.modes.items f.rows.items in
    ap (λ t. amps_head f ++ t) (made-joined orbit_text (enumerate_from 1 told))
