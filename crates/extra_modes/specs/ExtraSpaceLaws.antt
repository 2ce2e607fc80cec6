-- What an atom may have besides a displacement is moved by a group.
--
-- axial-product: det(R S) R S = det(R) R det(S) S
-- scalar-lawful, axial-lawful, quantity-lawful: the matrices multiply as the rotations do
use Rattle.std.proofs.Common.{◌≡◌, ℕ, suc, zero, ◌<◌, refl, ◌∙◌, ap, arith, ℤ, pos, ◌+ℤ◌, ◌*ℤ◌, [], ◌∷◌, nat_eq, if◌then◌else◌}
use Rattle.algebra.specs.Solve.{V, Mul, exps, at}
use Rattle.algebra.specs.SolveLaws.{solve}
use Rattle.algebra.specs.Sums as sums
use Rattle.algebra.specs.Whole.{whole}
use Rattle.algebra.specs.WholeLaws.{whole_ring}
use Rattle.space_ops.specs.Matrix.{Matrix, row_times, matrix_times, unit_matrix, scaled, determinant}
use Rattle.space_ops.specs.MatrixLaws.{same_matrix, determinant-matrix_times}
use Rattle.mode_project.specs.AtomSpace.{matrix_entry, IsQuantity}
use Rattle.mode_project.specs.QuantityLaws.{entry-product, entry-unit}
use Rattle.extra_modes.specs.declared.nature.Nature.{Nature}
use Rattle.extra_modes.specs.declared.nature.Nature.TheVariants.{Occupation, Axial}
use Rattle.extra_modes.specs.ExtraSpace.{scalar, axial_vector, quantity_of}

-- factors of a row and of a column
row-scaled : (c d x y z u v w : ℤ) → (c *ℤ d) *ℤ row_times whole x y z u v w ≡ row_times whole (c *ℤ x) (c *ℤ y) (c *ℤ z) (d *ℤ u) (d *ℤ v) (d *ℤ w)
row-scaled c d x y z u v w =
    solve whole whole_ring (at (pos 0) (c ∷ d ∷ x ∷ y ∷ z ∷ u ∷ v ∷ w ∷ []))
    (Mul (Mul (V 0) (V 1)) (row_times exps (V 2) (V 3) (V 4) (V 5) (V 6) (V 7)))
    (row_times exps (Mul (V 0) (V 2)) (Mul (V 0) (V 3)) (Mul (V 0) (V 4)) (Mul (V 1) (V 5)) (Mul (V 1) (V 6)) (Mul (V 1) (V 7))) refl

product-scaled : (c d : ℤ) (m n : Matrix ℤ) → scaled whole (c *ℤ d) (matrix_times whole m n) ≡ matrix_times whole (scaled whole c m) (scaled whole d n)
product-scaled c d m n =
    same_matrix _ _
    (row-scaled c d m.r00 m.r01 m.r02 n.r00 n.r10 n.r20) (row-scaled c d m.r00 m.r01 m.r02 n.r01 n.r11 n.r21) (row-scaled c d m.r00 m.r01 m.r02 n.r02 n.r12 n.r22)
    (row-scaled c d m.r10 m.r11 m.r12 n.r00 n.r10 n.r20) (row-scaled c d m.r10 m.r11 m.r12 n.r01 n.r11 n.r21) (row-scaled c d m.r10 m.r11 m.r12 n.r02 n.r12 n.r22)
    (row-scaled c d m.r20 m.r21 m.r22 n.r00 n.r10 n.r20) (row-scaled c d m.r20 m.r21 m.r22 n.r01 n.r11 n.r21) (row-scaled c d m.r20 m.r21 m.r22 n.r02 n.r12 n.r22)

pub axial-product : (m n : Matrix ℤ) → axial_vector.matrix (matrix_times whole m n) ≡ matrix_times whole (axial_vector.matrix m) (axial_vector.matrix n)
axial-product m n =
    ap (λ x. scaled whole x (matrix_times whole m n)) (determinant-matrix_times whole whole_ring m n)
    ∙ product-scaled (determinant whole m) (determinant whole n) m n

pub axial-lawful : IsQuantity axial_vector
axial-lawful = record {
  few = omega arith;
  unit = entry-unit;
  product = λ m n a b la lb. ap (λ x. matrix_entry x a b) (axial-product m n) ∙ entry-product (axial_vector.matrix m) (axial_vector.matrix n) a b la lb;
}

scalar-unit : (a b : ℕ) → a < 1 → b < 1 → matrix_entry (unit_matrix whole) a b ≡ (if nat_eq a b then pos 1 else pos 0)
scalar-unit zero zero la lb = refl
scalar-unit zero (suc b) la lb = absurd (omega (arith, lb))
scalar-unit (suc a) b la lb = absurd (omega (arith, la))

scalar-product : (a b : ℕ) → a < 1 → b < 1
    → matrix_entry (unit_matrix whole) a b ≡ sums.total (pos 0) ◌+ℤ◌ 1 (λ c. matrix_entry (unit_matrix whole) a c *ℤ matrix_entry (unit_matrix whole) c b)
scalar-product zero zero la lb = refl
scalar-product zero (suc b) la lb = absurd (omega (arith, lb))
scalar-product (suc a) b la lb = absurd (omega (arith, la))

pub scalar-lawful : IsQuantity scalar
scalar-lawful = record { few = omega arith; unit = scalar-unit; product = λ m n. scalar-product }

pub quantity-lawful : (nature : Nature) → IsQuantity (quantity_of nature)
quantity-lawful Occupation = scalar-lawful
quantity-lawful Axial = axial-lawful
