-- Signed numbers that were passed by value, read back.
use Rattle.std.proofs.Common.{◌≡◌, ◌∙◌, ℕ, ◌*◌, ℤ, pos, ◌+ℤ◌, neg_ℤ, FitsSigned, w32, to_z, of_z}
use Rattle.std.proofs.lemmas.Int.{to_z-of_z}
use Rattle.std.specs.Int.{int_rem_euclid}

abbrev pub passed : ℤ → ℤ
passed x = to_z w32 (of_z w32 x)

pub passed_sum : (r x y : ℤ) (m n : ℕ) → FitsSigned w32 r → FitsSigned w32 x → FitsSigned w32 y → m ≡ n → r ≡ int_rem_euclid (passed x +ℤ passed y) (pos (12 * m))
    → passed r ≡ int_rem_euclid (x +ℤ y) (pos (12 * n))
passed_sum r x y m n k f g e h = to_z-of_z w32 r k ∙ h ∙ (λ i. int_rem_euclid (to_z-of_z w32 x f i +ℤ to_z-of_z w32 y g i) (pos (12 * e i)))

pub passed_difference : (r x y : ℤ) (m n : ℕ) → FitsSigned w32 r → FitsSigned w32 x → FitsSigned w32 y → m ≡ n
    → r ≡ int_rem_euclid (passed x +ℤ neg_ℤ (passed y)) (pos (12 * m)) → passed r ≡ int_rem_euclid (x +ℤ neg_ℤ y) (pos (12 * n))
passed_difference r x y m n k f g e h = to_z-of_z w32 r k ∙ h ∙ (λ i. int_rem_euclid (to_z-of_z w32 x f i +ℤ neg_ℤ (to_z-of_z w32 y g i)) (pos (12 * e i)))
