-- The matrices of elements multiply as the quotient does.
--
-- entry-product, entry-unit: entries of a product of 3 by 3 matrices, and of the unit matrix
-- polar-lawful: displacements
-- turn-unit: element 0 doesn't turn
-- turn-product: the matrix of a product is the product of the matrices
-- turn-listed: element r T + t has rotation r
use Rattle.std.proofs.Common.{◌≡◌, ℕ, suc, zero, ◌<◌, ◌/◌, refl, sym, ◌∙◌, ap, arith, nat_eq, if◌then◌else◌, ℤ, pos, ◌+ℤ◌, ◌*ℤ◌, length}
use Rattle.algebra.specs.Sums as sums
use Rattle.algebra.specs.Whole.{whole}
use Rattle.algebra.specs.WholeLaws.{add_zeroℤ}
use Rattle.space_ops.specs.Matrix.{Matrix, matrix_times, unit_matrix}
use Rattle.space_ops.specs.Seitz.{seitz_product}
use Rattle.space_ops.specs.Words.{op_at}
use Rattle.super_group.specs.ElementLaws.{element-identity}
use Rattle.super_group.specs.Quotient.{SupercellGroup, IsQuotient, order_of, element_of, quotient_group}
use Rattle.super_group.specs.QuotientLaws.{element-number, element-member, product-member, element-parts}
use Rattle.mode_project.specs.AtomSpace.{matrix_entry, Quantity, IsQuantity, polar_vector}

-- a row times a column, from left to right
three-sum : (x y z : ℤ) → (x +ℤ y) +ℤ z ≡ ((pos 0 +ℤ x) +ℤ y) +ℤ z
three-sum x y z = ap (λ t. (t +ℤ y) +ℤ z) (sym (add_zeroℤ x))

-- entry (a, b) of a product
pub entry-product : (m n : Matrix ℤ) (a b : ℕ) → a < 3 → b < 3
    → matrix_entry (matrix_times whole m n) a b ≡ sums.total (pos 0) ◌+ℤ◌ 3 (λ c. matrix_entry m a c *ℤ matrix_entry n c b)
entry-product m n zero zero la lb = three-sum (m.r00 *ℤ n.r00) (m.r01 *ℤ n.r10) (m.r02 *ℤ n.r20)
entry-product m n zero (suc zero) la lb = three-sum (m.r00 *ℤ n.r01) (m.r01 *ℤ n.r11) (m.r02 *ℤ n.r21)
entry-product m n zero (suc (suc b)) la lb = three-sum (m.r00 *ℤ n.r02) (m.r01 *ℤ n.r12) (m.r02 *ℤ n.r22)
entry-product m n (suc zero) zero la lb = three-sum (m.r10 *ℤ n.r00) (m.r11 *ℤ n.r10) (m.r12 *ℤ n.r20)
entry-product m n (suc zero) (suc zero) la lb = three-sum (m.r10 *ℤ n.r01) (m.r11 *ℤ n.r11) (m.r12 *ℤ n.r21)
entry-product m n (suc zero) (suc (suc b)) la lb = three-sum (m.r10 *ℤ n.r02) (m.r11 *ℤ n.r12) (m.r12 *ℤ n.r22)
entry-product m n (suc (suc a)) zero la lb = three-sum (m.r20 *ℤ n.r00) (m.r21 *ℤ n.r10) (m.r22 *ℤ n.r20)
entry-product m n (suc (suc a)) (suc zero) la lb = three-sum (m.r20 *ℤ n.r01) (m.r21 *ℤ n.r11) (m.r22 *ℤ n.r21)
entry-product m n (suc (suc a)) (suc (suc b)) la lb = three-sum (m.r20 *ℤ n.r02) (m.r21 *ℤ n.r12) (m.r22 *ℤ n.r22)

pub entry-unit : (a b : ℕ) → a < 3 → b < 3 → matrix_entry (unit_matrix whole) a b ≡ (if nat_eq a b then pos 1 else pos 0)
entry-unit zero zero la lb = refl
entry-unit zero (suc zero) la lb = refl
entry-unit zero (suc (suc zero)) la lb = refl
entry-unit zero (suc (suc (suc b))) la lb = absurd (omega (arith, lb))
entry-unit (suc zero) zero la lb = refl
entry-unit (suc zero) (suc zero) la lb = refl
entry-unit (suc zero) (suc (suc zero)) la lb = refl
entry-unit (suc zero) (suc (suc (suc b))) la lb = absurd (omega (arith, lb))
entry-unit (suc (suc zero)) zero la lb = refl
entry-unit (suc (suc zero)) (suc zero) la lb = refl
entry-unit (suc (suc zero)) (suc (suc zero)) la lb = refl
entry-unit (suc (suc zero)) (suc (suc (suc b))) la lb = absurd (omega (arith, lb))
entry-unit (suc (suc (suc a))) b la lb = absurd (omega (arith, la))

pub polar-lawful : IsQuantity polar_vector
polar-lawful = record { few = omega arith; unit = entry-unit; product = entry-product }

module _ (g : SupercellGroup) (h : IsQuotient g) where
  module _ (k : Quantity) (law : IsQuantity k) where
    pub turn-unit : (a b : ℕ) → a < k.each → b < k.each → matrix_entry (k.matrix (element_of g 0).rot) a b ≡ (if nat_eq a b then pos 1 else pos 0)
    turn-unit a b la lb = ap (λ e. matrix_entry (k.matrix e.rot) a b) (element-identity g h) ∙ law.unit a b la lb

    pub turn-product : (p q a b : ℕ) → p < order_of g → q < order_of g → a < k.each → b < k.each
        → matrix_entry (k.matrix (element_of g ((quotient_group g).product p q)).rot) a b
        ≡ sums.total (pos 0) ◌+ℤ◌ k.each (λ c. matrix_entry (k.matrix (element_of g p).rot) a c *ℤ matrix_entry (k.matrix (element_of g q).rot) c b)
    turn-product p q a b lp lq la lb =
        let x = element_of g p in
        let y = element_of g q in
        let m = product-member g h x y (element-member g h p lp) (element-member g h q lq) in
        ap (λ r. matrix_entry (k.matrix r) a b) (element-number g h (seitz_product whole x y) m).rotation ∙ law.product x.rot y.rot a b la lb

  pub turn-listed : (q : ℕ) → (op_at g.parent.ops (q / length g.translations)).rot ≡ (element_of g q).rot
  turn-listed q = ap (λ e. e.rot) (sym (element-parts g h q))
