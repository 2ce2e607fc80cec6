use Rattle.std.proofs.Common.{rules}
use Rattle.algebra.specs.ListLaws.{same_three}
use Rattle.space_ops.specs.Op.{number_at, row_at}
use Rattle.space_ops.proofs.Passed.{passed_row_times}
use Rattle.space_ops.proofs.rotation.row_product.Goals as goal

pub returns : goal.returns
returns c =
    same_three _ _ _ _ _ _
    (passed_row_times c.dot.result _ _ _ (number_at (row_at c.args.b 0) 0) (number_at (row_at c.args.b 1) 0) (number_at (row_at c.args.b 2) 0) (search rules) (search rules) (search rules) (search rules) c.dot.ensures)
    (passed_row_times c.dot-2.result _ _ _ (number_at (row_at c.args.b 0) 1) (number_at (row_at c.args.b 1) 1) (number_at (row_at c.args.b 2) 1) (search rules) (search rules) (search rules) (search rules) c.dot-2.ensures)
    (passed_row_times c.dot-3.result _ _ _ (number_at (row_at c.args.b 0) 2) (number_at (row_at c.args.b 1) 2) (number_at (row_at c.args.b 2) 2) (search rules) (search rules) (search rules) (search rules) c.dot-3.ensures)
