use Rattle.std.proofs.Common.{sym, ◌∙◌, ap, subst, ◌+◌, ◌*◌, ℤ, List}
use Rattle.space_ops.specs.declared.op.Op.{Op}
use Rattle.algebra.specs.Whole.{whole}
use Rattle.space_ops.specs.Matrix.{vector_sum}
use Rattle.space_ops.specs.Op.{product_of, shift_of, vector_of, IsRotationWithin, IsShiftWithin}
use Rattle.space_ops.specs.OpGroupLaws.{product_of-within, product_of-rotation}
use Rattle.space_ops.proofs.Bounds.{rotation_more}
use Rattle.space_ops.proofs.op.Op.compose.Goals as goal

pub moved-requires-clause-left : goal.moved-requires-clause-left
moved-requires-clause-left c = rotation_more c.args.self.rot c.requires.left

pub returns-clause-product : goal.returns-clause-product
unfolding product_of
returns-clause-product c =
    λ i. record { rot = c.rotation_product.ensures i; shift = (c.shift_sum.ensures.value ∙ ap (λ (t : List ℤ). shift_of (vector_sum whole (vector_of c.args.self.shift) (vector_of t))) c.moved.ensures.value) i }

pub returns-clause-entries : goal.returns-clause-entries
returns-clause-entries c =
    subst (λ (o : Op). IsRotationWithin 27 o.rot) (sym (returns-clause-product c)) (product_of-rotation c.args.self c.args.other c.requires.left c.requires.right)

pub returns-clause-near : goal.returns-clause-near
returns-clause-near c m n h k =
    subst (λ (o : Op). IsShiftWithin (m + 9 * n) o.shift) (sym (returns-clause-product c)) (product_of-within c.args.self c.args.other m n c.requires.left h k)
