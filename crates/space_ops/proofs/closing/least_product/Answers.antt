use Rattle.std.proofs.Common.{sym, subst, ap, ◌∙◌, ◌+◌, ◌*◌, arith}
use Rattle.space_ops.specs.declared.op.Op.{Op}
use Rattle.space_ops.specs.Op.{seitz_of}
use Rattle.space_ops.specs.OpLaws.{product_of-shaped, seitz_of-product_of}
use Rattle.space_ops.specs.LeastShift.{HasRows, IsLeastOp}
use Rattle.space_ops.specs.LeastShiftLaws.{cell-within}
use Rattle.space_ops.specs.WithinLaws.{shift_more}
use Rattle.space_ops.proofs.closing.least_product.Goals as goal

pub least_op-requires : goal.least_op-requires
least_op-requires c =
    shift_more (11 + 9 * 11) 60000000 c.compose.result.shift (omega arith)
    (c.compose.ensures.near 11 11 (cell-within c.args.op.shift c.requires.left_cell) (cell-within c.args.step.shift c.requires.right_cell))

pub returns-clause-least : goal.returns-clause-least
returns-clause-least c = subst (λ g. IsLeastOp c.args.lattice g c.least_op.result) (ap seitz_of c.compose.ensures.product ∙ seitz_of-product_of c.args.op c.args.step) c.least_op.ensures.least

pub returns-clause-shaped : goal.returns-clause-shaped
returns-clause-shaped c =
    c.least_op.ensures.shaped
    (subst (λ (o : Op). HasRows o.rot) (sym c.compose.ensures.product) (ap (λ (o : Op). o.rot) (product_of-shaped c.args.op c.args.step)))
