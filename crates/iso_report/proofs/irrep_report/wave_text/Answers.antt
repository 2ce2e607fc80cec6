use Rattle.std.proofs.Common.{◌≡◌, ◌++◌, ◌∙◌, ℤ, codes}
use Rattle.space_ops.specs.Matrix.{Vector}
use Rattle.kstar.specs.Fraction.{IsLowestRow}
use Rattle.report_steps.specs.Fractions.{frac_text, row_text}
use Rattle.iso_report.proofs.FractionLemmas.{row-is}
use Rattle.std.proofs.lemmas.Result.{IfOk-weaker}
use Rattle.iso_report.proofs.irrep_report.wave_text.Goals as goal

pub returns : goal.returns
returns c =
    let k = c.args.k in
    IfOk-weaker c.fractions_text.result (λ text. text ≡ frac_text c.part-x.result ++ codes " " ++ frac_text c.part-y.result ++ codes " " ++ frac_text c.part-z.result)
    (λ text. (row : Vector ℤ) → IsLowestRow row k → text ≡ row_text row)
    (λ t e row low. e ∙ (λ j. frac_text (c.part-x.ensures j) ++ codes " " ++ frac_text (c.part-y.ensures j) ++ codes " " ++ frac_text (c.part-z.ensures j)) ∙ row-is row k low)
    c.fractions_text.ensures
