use Rattle.std.proofs.Common.{rules}
use Rattle.kstar.proofs.Bounds.{widened_product}
use Rattle.kstar.proofs.product.term.Goals as goal

pub returns-clause-within : goal.returns-clause-within
returns-clause-within c =
    widened_product c.args.a c.args.x c.from.result c.from-2.result c.ranges.a c.ranges.x (search rules) (search rules) c.from.ensures c.from-2.ensures c.requires
