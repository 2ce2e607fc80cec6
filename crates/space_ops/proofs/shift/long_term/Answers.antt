use Rattle.std.proofs.Common.{rules}
use Rattle.space_ops.proofs.Bounds.{passed_product_within}
use Rattle.space_ops.proofs.shift.long_term.Goals as goal

pub returns-clause-within : goal.returns-clause-within
returns-clause-within c = passed_product_within c.args.a c.args.x c.from.result (search rules) (search rules) (search rules) c.from.ensures c.requires.left c.requires.right
