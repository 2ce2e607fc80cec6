use Rattle.std.proofs.Common.{arith}
use Rattle.space_ops.specs.WithinLaws.{within_product}
use Rattle.kstar.proofs.Bounds.{passed_product, passed_product_value}
use Rattle.kstar.proofs.product.short_term.Goals as goal

pub returns-clause-value : goal.returns-clause-value
returns-clause-value c =
    passed_product_value c.args.a c.args.x c.ranges.a c.ranges.x 3456 (omega arith) (within_product 288 12 c.args.a c.args.x c.requires.left c.requires.right)

pub returns-clause-within : goal.returns-clause-within
returns-clause-within c =
    passed_product c.args.a c.args.x c.ranges.a c.ranges.x 3456 (omega arith) (within_product 288 12 c.args.a c.args.x c.requires.left c.requires.right)
