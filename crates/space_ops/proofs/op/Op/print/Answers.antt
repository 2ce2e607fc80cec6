use Rattle.std.proofs.Common.{rules}
use Rattle.space_ops.specs.OpText.{text_of}
use Rattle.space_ops.proofs.OpSpellings.{printed-spelled}
use Rattle.space_ops.proofs.TextLemmas.{text-pushed}
use Rattle.space_ops.proofs.op.Op.print.Goals as goal

pub returns-clause-value : goal.returns-clause-value
unfolding text_of
returns-clause-value c =
    text-pushed _ _ _ c.push_coordinate.new.text c.push.new.self c.push_coordinate-2.new.text c.push-2.new.self _ (search rules) (search rules) (search rules) (search rules) (search rules)

pub returns-clause-spelled : goal.returns-clause-spelled
returns-clause-spelled c = λ is. printed-spelled c.args.self _ (returns-clause-value c) is
