use Rattle.std.proofs.Common.{◌≡◌, sym, ◌∙◌, ap, subst, ◌*◌, ℤ, List}
use Rattle.space_ops.specs.declared.op.Op.{Op}
use Rattle.algebra.specs.Whole.{whole}
use Rattle.space_ops.specs.Matrix.{minus_vector, image_under}
use Rattle.space_ops.specs.Op.{product_of, inverse_of, identity_op, shift_of, vector_of, matrix_of, IsRotationWithin, IsShiftWithin, IsUnimodular}
use Rattle.space_ops.specs.OpLaws.{inverse_of-product_of, product_of-inverse_of}
use Rattle.space_ops.specs.OpGroupLaws.{ops-determinants, inverse_of-within}
use Rattle.space_ops.proofs.op.Op.inverse.Goals as goal

pub returns-clause-inverse : goal.returns-clause-inverse
unfolding inverse_of
returns-clause-inverse c =
    λ i. record {
      rot = c.inverse_rotation-rot.ensures.value i;
      shift =
          (c.negative_shift.ensures.value ∙ ap (λ (t : List ℤ). shift_of (minus_vector whole (vector_of t))) c.moved.ensures.value
          ∙ ap (λ (r : List (List ℤ)). shift_of (minus_vector whole (image_under whole (matrix_of r) (vector_of c.args.self.shift)))) c.inverse_rotation-rot.ensures.value) i;
    }

pub returns-clause-before : goal.returns-clause-before
returns-clause-before c =
    subst (λ (o : Op). product_of o c.args.self ≡ identity_op) (sym (returns-clause-inverse c)) (inverse_of-product_of c.args.self c.requires.unimodular)

pub returns-clause-after : goal.returns-clause-after
returns-clause-after c =
    subst (λ (o : Op). product_of c.args.self o ≡ identity_op) (sym (returns-clause-inverse c)) (product_of-inverse_of c.args.self c.requires.unimodular)

pub returns-clause-unimodular : goal.returns-clause-unimodular
returns-clause-unimodular c =
    subst (λ (o : Op). IsUnimodular (matrix_of o.rot)) (sym (returns-clause-inverse c)) (ops-determinants.inverse c.args.self c.requires.unimodular)

pub returns-clause-near : goal.returns-clause-near
returns-clause-near c e n =
    subst (λ (o : Op). IsRotationWithin e o.rot → IsShiftWithin n c.args.self.shift → IsShiftWithin (3 * (e * n)) o.shift) (sym (returns-clause-inverse c))
    (inverse_of-within c.args.self e n)
