-- Laws of operations as a group.
--
-- ops-products, ops-determinants: products, inverses and determinants
-- product_of-within: a product's translation is within the bounds of its factors'
-- product_of-rotation: so are its entries
-- inverse_of-within: an inverse's translation is within the bounds of its rotation and of the translation
use Rattle.std.proofs.Common.{ap, ℕ, ◌+◌, ◌*◌, ℤ, ◌+ℤ◌, List, arith}
use Rattle.space_ops.specs.declared.op.Op.{Op}
use Rattle.algebra.specs.Whole.{whole}
use Rattle.algebra.specs.WholeLaws.{whole_ring}
use Rattle.space_ops.specs.Matrix.{row_times}
use Rattle.space_ops.specs.MatrixLaws.{determinant-matrix_times}
use Rattle.space_ops.specs.Op.{op_of, seitz_of, matrix_of, number_at, row_at, product_row, product_of, inverse_of, IsWithin, IsShiftWithin, IsRotationWithin, IsSmallRotation}
use Rattle.space_ops.specs.OpLaws.{product_of-assoc, product_of-inverse_of, inverse_of-product_of, inverse_unimodular, seitz_product-identity, identity-seitz_product}
use Rattle.space_ops.specs.WithinLaws.{within_more, within_sum, within_minus, row_times-within}
use Rattle.space_ops.specs.OpGroup.{HaveProducts, HaveDeterminants}

pub ops-products : HaveProducts
unfolding product_of
ops-products = record {
  product_assoc = product_of-assoc;
  identity-product = λ a. ap op_of (identity-seitz_product (seitz_of a));
  product-identity = λ a. ap op_of (seitz_product-identity (seitz_of a));
  inverse-product = inverse_of-product_of;
  product-inverse = product_of-inverse_of;
}

pub ops-determinants : HaveDeterminants
unfolding product_of inverse_of
ops-determinants = record {
  product = λ a b. determinant-matrix_times whole whole_ring (matrix_of a.rot) (matrix_of b.rot);
  inverse = λ a u. inverse_unimodular (matrix_of a.rot) u;
}

-- a row of entries within e times a column within n
row-within : (e n : ℕ) (row t : List ℤ) → IsShiftWithin e row → IsShiftWithin n t
    → IsWithin (3 * (e * n)) (row_times whole (number_at row 0) (number_at row 1) (number_at row 2) (number_at t 0) (number_at t 1) (number_at t 2))
row-within e n row t h k =
    row_times-within e n (number_at row 0) (number_at row 1) (number_at row 2) (number_at t 0) (number_at t 1) (number_at t 2) h.0 h.1 h.2 k.0 k.1 k.2

-- t + R s along one axis
moved-within : (m n : ℕ) (x y : ℤ) → IsWithin m x → IsWithin (3 * (3 * n)) y → IsWithin (m + 9 * n) (x +ℤ y)
moved-within m n x y h k = within_more (m + 3 * (3 * n)) (m + 9 * n) (x +ℤ y) (omega arith) (within_sum m (3 * (3 * n)) x y h k)

pub product_of-within : (a b : Op) (m n : ℕ) → IsSmallRotation a.rot → IsShiftWithin m a.shift → IsShiftWithin n b.shift → IsShiftWithin (m + 9 * n) (product_of a b).shift
unfolding product_of
product_of-within a b m n r h k = (
  moved-within m n (number_at a.shift 0) _ h.0 (row-within 3 n (row_at a.rot 0) b.shift r.0 k),
  moved-within m n (number_at a.shift 1) _ h.1 (row-within 3 n (row_at a.rot 1) b.shift r.1 k),
  moved-within m n (number_at a.shift 2) _ h.2 (row-within 3 n (row_at a.rot 2) b.shift r.2 k),
)

-- a small row times a column of a small matrix
column-within : (row : List ℤ) (x y z : ℤ) → IsShiftWithin 3 row → IsWithin 3 x → IsWithin 3 y → IsWithin 3 z
    → IsWithin 27 (row_times whole (number_at row 0) (number_at row 1) (number_at row 2) x y z)
column-within row x y z h i j k = row_times-within 3 3 (number_at row 0) (number_at row 1) (number_at row 2) x y z h.0 h.1 h.2 i j k

columns-within : (row : List ℤ) (rot : List (List ℤ)) → IsShiftWithin 3 row → IsSmallRotation rot → IsShiftWithin 27 (product_row row rot)
columns-within row rot h k = (
  column-within row (number_at (row_at rot 0) 0) (number_at (row_at rot 1) 0) (number_at (row_at rot 2) 0) h k.0.0 k.1.0 k.2.0,
  column-within row (number_at (row_at rot 0) 1) (number_at (row_at rot 1) 1) (number_at (row_at rot 2) 1) h k.0.1 k.1.1 k.2.1,
  column-within row (number_at (row_at rot 0) 2) (number_at (row_at rot 1) 2) (number_at (row_at rot 2) 2) h k.0.2 k.1.2 k.2.2,
)

pub product_of-rotation : (a b : Op) → IsSmallRotation a.rot → IsSmallRotation b.rot → IsRotationWithin 27 (product_of a b).rot
unfolding product_of
product_of-rotation a b h k = (columns-within (row_at a.rot 0) b.rot h.0 k, columns-within (row_at a.rot 1) b.rot h.1 k, columns-within (row_at a.rot 2) b.rot h.2 k)

pub inverse_of-within : (a : Op) (e n : ℕ) → IsRotationWithin e (inverse_of a).rot → IsShiftWithin n a.shift → IsShiftWithin (3 * (e * n)) (inverse_of a).shift
unfolding inverse_of
inverse_of-within a e n r k =
    let rot = (inverse_of a).rot in (
      within_minus (3 * (e * n)) _ (row-within e n (row_at rot 0) a.shift r.0 k),
      within_minus (3 * (e * n)) _ (row-within e n (row_at rot 1) a.shift r.1 k),
      within_minus (3 * (e * n)) _ (row-within e n (row_at rot 2) a.shift r.2 k),
    )
