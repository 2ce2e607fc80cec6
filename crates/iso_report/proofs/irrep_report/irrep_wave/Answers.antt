use Rattle.std.proofs.Common.{◌≡◌, ℤ}
use Rattle.space_ops.specs.Matrix.{Vector}
use Rattle.kstar.specs.Fraction.{IsLowestRow}
use Rattle.report_steps.specs.Fractions.{row_text}
use Rattle.report_steps.specs.Irreps.{row_of_irrep}
use Rattle.std.proofs.lemmas.Result.{IfOk-weaker}
use Rattle.report_steps.specs.WaveLaws.{wave_of, lowest-row}
use Rattle.iso_report.proofs.irrep_report.irrep_wave.Goals as goal

pub returns : goal.returns
returns c =
    let i = c.args.irrep.now in
    IfOk-weaker c.wave_text.result (λ text. (row : Vector ℤ) → IsLowestRow row (wave_of i) → text ≡ row_text row) (λ text. text ≡ row_text (row_of_irrep i)) (λ t h. h (row_of_irrep i) (lowest-row i c.requires))
    c.wave_text.ensures
