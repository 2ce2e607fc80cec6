-- Quotients of whole numbers.
use Rattle.std.proofs.Common.{◌≡◌, sym, ap, ◌∙◌, zero, suc, ℤ, pos, negsuc, ◌<ℤ◌, false, [], ◌∷◌, arith}
use Rattle.std.specs.Int.RustNames.{unsigned_abs}
use Rattle.std.proofs.lemmas.Int.{ints}
use Rattle.cyclo24.specs.FieldOn.{FieldOn}
use Rattle.cyclo24.specs.ExactField.{ExactField}
use Rattle.cyclo24.specs.ExactK24.{Exact24, k24_laws, k24}
use Rattle.cyclo24.specs.Gcd.{lowest_terms}
use Rattle.cyclo24.specs.K24NumbersLaws.{ratio_value}
use Rattle.cyclo24.specs.Numerals.{of_whole}
use Rattle.cyclo24.specs.TextK24.{text24}
use Rattle.report_steps.specs.Places.{ratio_text}

-- what times d is n is n / d
quotient-is : {K : Type 0} (f : FieldOn K) (q d n : K) → f.is_nought d ≡ false → f.times q d ≡ n → q ≡ f.times n (f.inverse d)
quotient-is f q d n z e =
    sym (f.times-unit q) ∙ ap (f.times q) (sym (f.times-inverse d z)) ∙ sym (f.times_assoc q d (f.inverse d)) ∙ ap (λ m. f.times m (f.inverse d)) e

-- a positive number isn't 0
of-positive : (f : ExactField) (d : ℤ) → pos 0 <ℤ d → f.laws.is_nought (of_whole f.laws d) ≡ false
of-positive f (pos zero) p = absurd (omega (arith, ints, p))
of-positive f (pos (suc n)) p = f.characteristic_zero n
of-positive f (negsuc n) p = absurd (omega (arith, ints, p))

-- a number in lowest terms
pub ratio_text-is : (x : Exact24) (n d : ℤ) → pos 0 <ℤ d → x.0 ≡ lowest_terms (n ∷ pos 0 ∷ pos 0 ∷ pos 0 ∷ []) (unsigned_abs d) → text24 x ≡ ratio_text n d
unfolding ratio_text
ratio_text-is x n d p e = ap text24 (quotient-is k24_laws x (of_whole k24_laws d) (of_whole k24_laws n) (of-positive k24 d p) (ratio_value n d p x e))
