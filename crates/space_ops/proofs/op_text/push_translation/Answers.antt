use Rattle.std.proofs.Common.{rules}
use Rattle.std.proofs.lemmas.Result.{on_ok_weaker}
use Rattle.space_ops.specs.OpText.{translation_text}
use Rattle.space_ops.proofs.TextLemmas.{translation-pushed}
use Rattle.space_ops.proofs.op_text.push_translation.Goals as goal

pub returns-then-is_nothing : goal.returns-then-is_nothing
unfolding translation_text
returns-then-is_nothing c = search rules

pub returns : goal.returns
returns c = on_ok_weaker c.push_fraction.result (λ e. translation-pushed c.args.shift c.args.text.now c.push_sign.new.text _ (search rules) (search rules) (search (rules, e))) c.push_fraction.ensures
