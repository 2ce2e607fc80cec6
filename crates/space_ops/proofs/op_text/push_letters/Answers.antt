use Rattle.std.proofs.Common.{rules}
use Rattle.std.proofs.lemmas.Result.{on_ok_weaker}
use Rattle.space_ops.proofs.TextLemmas.{letters-pushed}
use Rattle.space_ops.proofs.op_text.push_letters.Goals as goal

pub returns : goal.returns
returns c = on_ok_weaker c.push_term-3.result (λ e. letters-pushed c.args.x c.args.y c.args.z c.args.text.now c.push_term.new.text c.push_term-2.new.text _ (search rules) (search rules) (search (rules, e))) c.push_term-3.ensures
