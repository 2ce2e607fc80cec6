-- Bounds on the absolute values of whole numbers.
use Rattle.std.proofs.Common.{◌≡◌, subst, FitsSigned, w8, w32, refl, ◌∙◌, List, ℕ, zero, suc, ◌*◌, ◌≤◌, ap, sym, ℤ, pos, negsuc, ◌*ℤ◌, ◌<ℤ◌, ◌≤ℤ◌, unsigned_abs, arith}
use Rattle.std.proofs.lemmas.Int.{ints, unsigned_abs-mul, to_z-of_z, fits_signed_from_abs}
use Rattle.space_ops.specs.WithinLaws.{abs_of_within, shift_more, within_product}
use Rattle.space_ops.proofs.Passed.{passed, passed_long}
use Rattle.space_ops.specs.Op.{IsWithin, IsRotationWithin, IsSmallRotation, row_at}

pub rotation_more : (rot : List (List ℤ)) → IsSmallRotation rot → IsRotationWithin 18 rot
rotation_more rot h = (shift_more 3 18 (row_at rot 0) (omega arith) h.0, shift_more 3 18 (row_at rot 1) (omega arith) h.1, shift_more 3 18 (row_at rot 2) (omega arith) h.2)

unit_abs : (n : ℕ) → n * n ≡ 1 → n ≡ 1
unit_abs zero e = absurd (omega (arith, e))
unit_abs (suc zero) e = refl
unit_abs (suc (suc n)) e = absurd (omega (arith, e))

-- a number whose square is 1, by its sign
pub unit_when_negative : (d : ℤ) → d *ℤ d ≡ pos 1 → d <ℤ pos 0 → d ≡ negsuc 0
unit_when_negative (pos k) e l = absurd (omega (arith, ints, l))
unit_when_negative (negsuc k) e l = let f : suc k ≡ 1 = unit_abs (suc k) (sym (unsigned_abs-mul (negsuc k) (negsuc k)) ∙ ap unsigned_abs e) in omega (arith, ints, f)

pub unit_when_positive : (d : ℤ) → d *ℤ d ≡ pos 1 → pos 0 ≤ℤ d → d ≡ pos 1
unit_when_positive (pos k) e l = let f : k ≡ 1 = unit_abs k (sym (unsigned_abs-mul (pos k) (pos k)) ∙ ap unsigned_abs e) in ap pos f
unit_when_positive (negsuc k) e l = absurd (omega (arith, ints, l))

-- a product that was passed by value is within the product of the bounds
pub passed_product_within : (a x r : ℤ) → FitsSigned w8 a → FitsSigned w32 x → FitsSigned w32 r → r ≡ passed a → IsWithin 18 a → IsWithin 1000000 x
    → IsWithin 18000000 (passed_long (passed_long r *ℤ passed_long x))
passed_product_within a x r f g k e h l =
    let w : IsWithin 18000000 (a *ℤ x) = within_product 18 1000000 a x h l in
    let b : unsigned_abs (a *ℤ x) ≤ 18000000 = abs_of_within 18000000 (a *ℤ x) w in
    let p : passed_long r *ℤ passed_long x ≡ a *ℤ x = (λ i. (to_z-of_z w32 r k ∙ e ∙ to_z-of_z w8 a f) i *ℤ to_z-of_z w32 x g i) in
    subst (IsWithin 18000000) (sym (ap passed_long p ∙ to_z-of_z w32 (a *ℤ x) (fits_signed_from_abs w32 (a *ℤ x) (omega arith)))) w

-- the square of 1 and of -1
pub unit_square : (d : ℤ) → unsigned_abs d ≡ 1 → d *ℤ d ≡ pos 1
unit_square (pos k) e = ap (λ n. pos n *ℤ pos n) e
unit_square (negsuc k) e = let z : k ≡ 0 = omega (arith, e) in ap (λ n. negsuc n *ℤ negsuc n) z

pub square_unit : (d : ℤ) → d *ℤ d ≡ pos 1 → unsigned_abs d ≡ 1
square_unit d e = unit_abs (unsigned_abs d) (sym (unsigned_abs-mul d d) ∙ ap unsigned_abs e)
