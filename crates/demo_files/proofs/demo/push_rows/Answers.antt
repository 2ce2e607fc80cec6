use Rattle.std.proofs.Common.{◌≡◌, ℤ, ◌++◌, ◌∙◌, ap, rules, w32}
use Rattle.std.proofs.lemmas.Int.{to_z-of_z}
use Rattle.std.proofs.lemmas.Result.{IfOk-equal}
use Rattle.algebra.specs.PassedLaws.{passed}
use Rattle.space_ops.specs.Op.{row_at}
use Rattle.demo_files.specs.Demo.{entries_text, rows_text}
use Rattle.demo_files.proofs.DemoTexts.{pushed-three}
use Rattle.demo_files.proofs.demo.push_rows.Goals as goal

pub returns : goal.returns
unfolding rows_text
returns c =
    let rot = c.args.rot in
    let same : passed w32 c.args.factor ≡ c.args.factor = to_z-of_z w32 c.args.factor (search rules) in
    pushed-three c.push_entries-3.result c.args.text.now c.push_entries.new.text c.push_entries-2.new.text c.push_entries-3.new.text
    (entries_text c.args.factor (row_at rot 0)) (entries_text c.args.factor (row_at rot 1)) (entries_text c.args.factor (row_at rot 2))
    (c.in_ok-push_entries.ensures ∙ ap (λ (v : ℤ). c.args.text.now ++ entries_text v (row_at rot 0)) same)
    (c.in_ok-push_entries-2.ensures ∙ ap (λ (v : ℤ). c.push_entries.new.text ++ entries_text v (row_at rot 1)) same)
    (IfOk-equal _ _ _ _ c.push_entries-3.ensures (ap (λ (v : ℤ). c.push_entries-2.new.text ++ entries_text v (row_at rot 2)) same))
