use Rattle.std.proofs.Common.{rules, w8, w32}
use Rattle.algebra.specs.PassedLaws.{passed-sum, passed-product}
use Rattle.space_ops.specs.Op.{number_at}
use Rattle.space_ops.proofs.shift.long_dot.Goals as goal

pub returns-clause-value : goal.returns-clause-value
returns-clause-value c =
    passed-sum w32 c.long_sum.result c.long_term.result c.long_term-2.result c.long_term-3.result _ _ _ (search rules) (search rules) (search rules) (search rules) c.long_sum.ensures.value
    (passed-product w8 w32 (number_at c.args.row 0) (number_at c.args.shift 0) _ (search rules) (search rules) c.long_term.ensures.value)
    (passed-product w8 w32 (number_at c.args.row 1) (number_at c.args.shift 1) _ (search rules) (search rules) c.long_term-2.ensures.value)
    (passed-product w8 w32 (number_at c.args.row 2) (number_at c.args.shift 2) _ (search rules) (search rules) c.long_term-3.ensures.value)
