use Rattle.std.proofs.Common.{rules}
use Rattle.std.proofs.lemmas.Result.{on_ok_weaker}
use Rattle.space_ops.specs.OpText.{term_text}
use Rattle.space_ops.proofs.TextLemmas.{term-pushed}
use Rattle.space_ops.proofs.op_text.push_term.Goals as goal

pub returns-then-is_nothing : goal.returns-then-is_nothing
unfolding term_text
returns-then-is_nothing c = search rules

pub returns : goal.returns
returns c = on_ok_weaker c.push.result (λ e. term-pushed c.args.is_first c.args.coefficient c.args.letter.now c.args.text.now c.push_sign.new.text c.push_coefficient.new.text _ (search rules) (search rules) (search rules) e) c.push.ensures.ok
