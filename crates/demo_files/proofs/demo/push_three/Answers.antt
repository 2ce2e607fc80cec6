use Rattle.std.proofs.Common.{ℤ, ◌++◌, ◌∙◌, ap, rules, w32}
use Rattle.std.proofs.lemmas.Int.{to_z-of_z}
use Rattle.std.proofs.lemmas.Result.{IfOk-equal}
use Rattle.demo_files.specs.Demo.{entry_text}
use Rattle.demo_files.proofs.DemoTexts.{pushed-three}
use Rattle.demo_files.proofs.demo.push_three.Goals as goal

pub returns : goal.returns
returns c =
    pushed-three c.push_entry-3.result c.args.text.now c.push_entry.new.text c.push_entry-2.new.text c.push_entry-3.new.text (entry_text c.args.first) (entry_text c.args.second) (entry_text c.args.third)
    (c.in_ok-push_entry.ensures ∙ ap (λ (v : ℤ). c.args.text.now ++ entry_text v) (to_z-of_z w32 c.args.first (search rules)))
    (c.in_ok-push_entry-2.ensures ∙ ap (λ (v : ℤ). c.push_entry.new.text ++ entry_text v) (to_z-of_z w32 c.args.second (search rules)))
    (IfOk-equal _ _ _ _ c.push_entry-3.ensures (ap (λ (v : ℤ). c.push_entry-2.new.text ++ entry_text v) (to_z-of_z w32 c.args.third (search rules))))
