-- Signed numbers that were passed by value, read back: a width keeps each number that fits it.
--
-- passed w x: x written in the width w and read back
-- passed-sum: a sum of three numbers; passed-product: a product
-- passed-from, passed-to: what holds of the number that was read back holds of the number, and the other way round
use Rattle.std.proofs.Common.{◌≡◌, ◌∙◌, sym, subst, ℤ, ◌+ℤ◌, ◌*ℤ◌, FitsSigned, to_z, of_z}
use Rattle.std.specs.Int.{Width}
use Rattle.std.proofs.lemmas.Int.{to_z-of_z}

-- x written in the width and read back
abbrev pub passed : Width → ℤ → ℤ
passed w x = to_z w (of_z w x)

pub passed-sum : (w : Width) (r a b c a' b' c' : ℤ) → FitsSigned w r → FitsSigned w a → FitsSigned w b → FitsSigned w c → r ≡ (passed w a +ℤ passed w b) +ℤ passed w c
    → a ≡ a' → b ≡ b' → c ≡ c' → passed w r ≡ (a' +ℤ b') +ℤ c'
passed-sum w r a b c a' b' c' k f g h e p q s =
    to_z-of_z w r k ∙ e ∙ (λ i. ((to_z-of_z w a f ∙ p) i +ℤ (to_z-of_z w b g ∙ q) i) +ℤ (to_z-of_z w c h ∙ s) i)

-- a product of numbers of two widths
pub passed-product : (v w : Width) (a x r : ℤ) → FitsSigned v a → FitsSigned w x → r ≡ passed v a *ℤ passed w x → r ≡ a *ℤ x
passed-product v w a x r f g e = e ∙ (λ i. to_z-of_z v a f i *ℤ to_z-of_z w x g i)

pub passed-from : (w : Width) (P : ℤ → Type 0) (x : ℤ) → FitsSigned w x → P (passed w x) → P x
passed-from w P x f h = subst P (to_z-of_z w x f) h

pub passed-to : (w : Width) (P : ℤ → Type 0) (x : ℤ) → FitsSigned w x → P x → P (passed w x)
passed-to w P x f h = subst P (sym (to_z-of_z w x f)) h
