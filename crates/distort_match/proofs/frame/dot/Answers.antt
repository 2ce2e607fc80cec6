use Rattle.std.proofs.Common.{rules, w32, w64}
use Rattle.algebra.specs.PassedLaws.{passed-sum, passed-product}
use Rattle.space_ops.specs.Op.{number_at}
use Rattle.distort_match.proofs.frame.dot.Goals as goal

pub returns-clause-value : goal.returns-clause-value
returns-clause-value c =
    passed-sum w64 c.sum.result c.term.result c.term-2.result c.term-3.result _ _ _ (search rules) (search rules) (search rules) (search rules) c.sum.ensures.value
    (passed-product w32 w64 (number_at c.args.row 0) (number_at c.args.x 0) _ (search rules) (search rules) c.term.ensures.value)
    (passed-product w32 w64 (number_at c.args.row 1) (number_at c.args.x 1) _ (search rules) (search rules) c.term-2.ensures.value)
    (passed-product w32 w64 (number_at c.args.row 2) (number_at c.args.x 2) _ (search rules) (search rules) c.term-3.ensures.value)
