use Rattle.std.proofs.Common.{rules}
use Rattle.std.proofs.lemmas.Result.{on_ok_weaker}
use Rattle.space_ops.specs.OpText.{coordinate_text}
use Rattle.space_ops.proofs.TextLemmas.{coordinate-pushed}
use Rattle.space_ops.proofs.op_text.push_coordinate.Goals as goal

pub returns-then-is_empty : goal.returns-then-is_empty
unfolding coordinate_text
returns-then-is_empty c = search rules

pub returns : goal.returns
returns c = on_ok_weaker c.push_translation.result (λ e. coordinate-pushed c.args.row c.args.shift c.args.text.now c.push_letters.new.text _ (search rules) (search rules) (search (rules, e))) c.push_translation.ensures
