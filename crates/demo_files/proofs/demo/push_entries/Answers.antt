use Rattle.std.proofs.Common.{◌≡◌, ◌*ℤ◌, ◌++◌, ◌∙◌, rules, w8, w32}
use Rattle.std.proofs.lemmas.Int.{to_z-of_z}
use Rattle.std.proofs.lemmas.Result.{IfOk-equal}
use Rattle.algebra.specs.PassedLaws.{passed, passed-product}
use Rattle.space_ops.specs.Op.{number_at}
use Rattle.demo_files.specs.Demo.{entry_text, entries_text}
use Rattle.demo_files.proofs.demo.push_entries.Goals as goal

pub returns : goal.returns
unfolding entries_text
returns c =
    let row = c.args.row in
    let first : passed w32 c.scaled.result ≡ c.args.factor *ℤ number_at row 0 =
    to_z-of_z w32 c.scaled.result (search rules) ∙ passed-product w32 w8 c.args.factor (number_at row 0) c.scaled.result (search rules) (search rules) c.scaled.ensures in
    let second : passed w32 c.scaled-2.result ≡ c.args.factor *ℤ number_at row 1 =
    to_z-of_z w32 c.scaled-2.result (search rules) ∙ passed-product w32 w8 c.args.factor (number_at row 1) c.scaled-2.result (search rules) (search rules) c.scaled-2.ensures in
    let third : passed w32 c.scaled-3.result ≡ c.args.factor *ℤ number_at row 2 =
    to_z-of_z w32 c.scaled-3.result (search rules) ∙ passed-product w32 w8 c.args.factor (number_at row 2) c.scaled-3.result (search rules) (search rules) c.scaled-3.ensures in
    IfOk-equal _ _ _ _ c.push_three.ensures (λ i. c.args.text.now ++ (entry_text (first i) ++ entry_text (second i) ++ entry_text (third i)))
