use Rattle.std.proofs.Common.{ℤ, ◌∙◌, ap, rules, w32}
use Rattle.std.proofs.lemmas.Int.{to_z-of_z}
use Rattle.demo_files.specs.Demo.{rows_text}
use Rattle.demo_files.proofs.DemoTexts.{matrix-text}
use Rattle.demo_files.proofs.demo.matrix_line.Goals as goal

pub returns : goal.returns
returns c =
    matrix-text c.args.number c.args.op _ _ _ _ _ _ _ c.new-text.ensures c.in_ok-push.ensures.ok c.in_ok-push-2.ensures.ok c.in_ok-push_rows.ensures c.in_ok-push-3.ensures.ok
    (c.as_slice.ensures ∙ c.in_ok-print.ensures.value)
    (ap (λ (v : ℤ). rows_text v c.args.op.rot) (to_z-of_z w32 c.factor.result (search rules) ∙ c.factor.ensures.value))
