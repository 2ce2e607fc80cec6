-- Operations as a group.
--
-- HaveProducts: products of operations are associative, with the identity and the inverses of unimodular operations
-- HaveDeterminants: the determinant of a product is the product of the determinants
use Rattle.std.specs.Prelude.{◌≡◌, ◌*ℤ◌}
use Rattle.space_ops.specs.declared.op.Op.{Op}
use Rattle.algebra.specs.Whole.{whole}
use Rattle.space_ops.specs.Matrix.{determinant}
use Rattle.space_ops.specs.Op.{op_of, seitz_of, matrix_of, product_of, inverse_of, identity_op, IsUnimodular}

pub record HaveProducts : Type 0 where
  pub product_assoc : (a b c : Op) → product_of (product_of a b) c ≡ product_of a (product_of b c)
  pub identity-product : (a : Op) → product_of identity_op a ≡ op_of (seitz_of a)
  pub product-identity : (a : Op) → product_of a identity_op ≡ op_of (seitz_of a)
  pub inverse-product : (a : Op) → IsUnimodular (matrix_of a.rot) → product_of (inverse_of a) a ≡ identity_op
  pub product-inverse : (a : Op) → IsUnimodular (matrix_of a.rot) → product_of a (inverse_of a) ≡ identity_op

pub record HaveDeterminants : Type 0 where
  pub product : (a b : Op) → determinant whole (matrix_of (product_of a b).rot) ≡ determinant whole (matrix_of a.rot) *ℤ determinant whole (matrix_of b.rot)
  pub inverse : (a : Op) → IsUnimodular (matrix_of a.rot) → IsUnimodular (matrix_of (inverse_of a).rot)
