-- Bounds of products of numbers that were passed by value.
use Rattle.std.proofs.Common.{◌≡◌, subst, FitsSigned, w32, w64, ◌∙◌, ℕ, ◌<◌, ◌≤◌, ◌^◌, ap, sym, ℤ, pos, negsuc, ◌*ℤ◌, unsigned_abs, arith}
use Rattle.std.proofs.lemmas.Int.{to_z-of_z, fits_signed_from_abs}
use Rattle.algebra.specs.PassedLaws.{passed}
use Rattle.space_ops.specs.Op.{IsWithin}
use Rattle.space_ops.specs.WithinLaws.{abs_of_within, within_of_abs, within_product}

-- a product of numbers that were passed by value
pub passed_product : (a x : ℤ) → FitsSigned w32 a → FitsSigned w32 x → (n : ℕ) → n < 2 ^ 31 → IsWithin n (a *ℤ x)
    → IsWithin n (passed w32 (passed w32 a *ℤ passed w32 x))
passed_product a x f g n l h =
    let b : unsigned_abs (a *ℤ x) ≤ n = abs_of_within n (a *ℤ x) h in
    let p : passed w32 a *ℤ passed w32 x ≡ a *ℤ x = (λ i. to_z-of_z w32 a f i *ℤ to_z-of_z w32 x g i) in
    subst (IsWithin n) (sym (ap (passed w32) p ∙ to_z-of_z w32 (a *ℤ x) (fits_signed_from_abs w32 (a *ℤ x) (omega arith)))) h

pub passed_product_value : (a x : ℤ) → FitsSigned w32 a → FitsSigned w32 x → (n : ℕ) → n < 2 ^ 31 → IsWithin n (a *ℤ x)
    → passed w32 (passed w32 a *ℤ passed w32 x) ≡ a *ℤ x
passed_product_value a x f g n l h =
    let b : unsigned_abs (a *ℤ x) ≤ n = abs_of_within n (a *ℤ x) h in
    let p : passed w32 a *ℤ passed w32 x ≡ a *ℤ x = (λ i. to_z-of_z w32 a f i *ℤ to_z-of_z w32 x g i) in
    ap (passed w32) p ∙ to_z-of_z w32 (a *ℤ x) (fits_signed_from_abs w32 (a *ℤ x) (omega arith))

abs_of_fits : (x : ℤ) → FitsSigned w32 x → unsigned_abs x ≤ 2147483648
abs_of_fits (pos n) f = omega (arith, f.sfits)
abs_of_fits (negsuc n) f = omega (arith, f.sfits)

-- a product of numbers that were widened
pub widened_product : (a x r s : ℤ) → FitsSigned w32 a → FitsSigned w32 x → FitsSigned w64 r → FitsSigned w64 s → r ≡ passed w32 a → s ≡ passed w32 x → IsWithin 24000 a
    → IsWithin 51539607552000 (passed w64 (passed w64 r *ℤ passed w64 s))
widened_product a x r s f g k l d e h =
    let w : IsWithin 51539607552000 (a *ℤ x) = within_product 24000 2147483648 a x h (within_of_abs 2147483648 x (abs_of_fits x g)) in
    let b : unsigned_abs (a *ℤ x) ≤ 51539607552000 = abs_of_within 51539607552000 (a *ℤ x) w in
    let p : passed w64 r *ℤ passed w64 s ≡ a *ℤ x = (λ i. (to_z-of_z w64 r k ∙ d ∙ to_z-of_z w32 a f) i *ℤ (to_z-of_z w64 s l ∙ e ∙ to_z-of_z w32 x g) i) in
    subst (IsWithin 51539607552000) (sym (ap (passed w64) p ∙ to_z-of_z w64 (a *ℤ x) (fits_signed_from_abs w64 (a *ℤ x) (omega arith)))) w
