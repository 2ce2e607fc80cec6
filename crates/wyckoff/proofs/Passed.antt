-- Signed numbers that were passed by value, read back.
use Rattle.std.proofs.Common.{◌≡◌, ◌∙◌, ℕ, ◌*◌, ℤ, pos, ◌+ℤ◌, FitsSigned, w64, to_z, of_z}
use Rattle.std.proofs.lemmas.Int.{to_z-of_z}
use Rattle.std.specs.Int.{int_rem_euclid}

abbrev pub passed : ℤ → ℤ
passed x = to_z w64 (of_z w64 x)

pub passed_rem : (r x : ℤ) (m n : ℕ) → FitsSigned w64 r → FitsSigned w64 x → m ≡ n → r ≡ int_rem_euclid (passed x) (pos (12000000 * m))
    → passed r ≡ int_rem_euclid x (pos (12000000 * n))
passed_rem r x m n k f e h = to_z-of_z w64 r k ∙ h ∙ (λ i. int_rem_euclid (to_z-of_z w64 x f i) (pos (12000000 * e i)))

pub passed_pair : (r a b a' b' : ℤ) → FitsSigned w64 r → FitsSigned w64 a → FitsSigned w64 b → r ≡ passed a +ℤ passed b → a ≡ a' → b ≡ b' → passed r ≡ a' +ℤ b'
passed_pair r a b a' b' k f g h p q = to_z-of_z w64 r k ∙ h ∙ (λ i. (to_z-of_z w64 a f ∙ p) i +ℤ (to_z-of_z w64 b g ∙ q) i)
