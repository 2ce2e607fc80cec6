use Rattle.std.proofs.Common.{rules, w8, w32}
use Rattle.space_ops.specs.Op.{number_at}
use Rattle.algebra.specs.PassedLaws.{passed-sum, passed-product}
use Rattle.hall_symbol.proofs.operation.image_along.Goals as goal

pub returns-clause-value : goal.returns-clause-value
returns-clause-value c =
    passed-sum w32 c.sum.result c.product.result c.product-2.result c.product-3.result _ _ _ (search rules) (search rules) (search rules) (search rules) c.sum.ensures.value
    (passed-product w8 w32 (number_at c.args.row 0) (number_at c.args.origin 0) _ (search rules) (search rules) c.product.ensures.value)
    (passed-product w8 w32 (number_at c.args.row 1) (number_at c.args.origin 1) _ (search rules) (search rules) c.product-2.ensures.value)
    (passed-product w8 w32 (number_at c.args.row 2) (number_at c.args.origin 2) _ (search rules) (search rules) c.product-3.ensures.value)
