use Rattle.std.proofs.Common.{rules, w32}
use Rattle.space_ops.specs.Op.{number_at}
use Rattle.algebra.specs.PassedLaws.{passed-product, passed-sum}
use Rattle.kstar.proofs.product.short_value.Goals as goal

pub returns-clause-value : goal.returns-clause-value
returns-clause-value c =
    passed-sum w32 c.short_sum.result c.short_term.result c.short_term-2.result c.short_term-3.result _ _ _ (search rules) (search rules) (search rules) (search rules) c.short_sum.ensures.value
    (passed-product w32 w32 (number_at c.args.row 0) (number_at c.args.t 0) _ (search rules) (search rules) c.short_term.ensures.value)
    (passed-product w32 w32 (number_at c.args.row 1) (number_at c.args.t 1) _ (search rules) (search rules) c.short_term-2.ensures.value)
    (passed-product w32 w32 (number_at c.args.row 2) (number_at c.args.t 2) _ (search rules) (search rules) c.short_term-3.ensures.value)
