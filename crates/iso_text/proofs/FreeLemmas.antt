-- Bytes that digits, ratios and units don't hold.
use Rattle.std.proofs.Common.{◌≡◌, ℕ, Bool, true, false, List, [], ◌∷◌, refl, sym, ◌∙◌, ap, subst, inl, inr}
use Rattle.std.specs.Char.{is_ascii_digit}
use Rattle.iso_text.specs.Spellings.{SpellsDivisor, SpellsOver, SpellsRatio}
use Rattle.iso_text.proofs.SpellingLemmas.{Free, digits_free}
use Rattle.iso_text.proofs.PlaceSpellings.{Free-append}

module _ (p : ℕ → Bool) (other : (c : ℕ) → is_ascii_digit c ≡ true → p c ≡ false) where
  is_free : (text digits : List ℕ) → text ≡ digits → Free p digits → Free p text
  is_free text digits e free = subst (λ x. Free p x) (sym e) free

  pub divisor_free : (text : List ℕ) (d : ℕ) → SpellsDivisor text d → Free p text
  divisor_free text d (inl w) = is_free text _ w.0 (other 49 refl, tt)
  divisor_free text d (inr (inl w)) = is_free text _ w.0 (other 50 refl, tt)
  divisor_free text d (inr (inr (inl w))) = is_free text _ w.0 (other 51 refl, tt)
  divisor_free text d (inr (inr (inr (inl w)))) = is_free text _ w.0 (other 52 refl, tt)
  divisor_free text d (inr (inr (inr (inr (inl w))))) = is_free text _ w.0 (other 54 refl, tt)
  divisor_free text d (inr (inr (inr (inr (inr (inl w)))))) = is_free text _ w.0 (other 56 refl, tt)
  divisor_free text d (inr (inr (inr (inr (inr (inr (inl w))))))) = is_free text _ w.0 (other 49 refl, (other 50 refl, tt))
  divisor_free text d (inr (inr (inr (inr (inr (inr (inr w))))))) = is_free text _ w.0 (other 50 refl, (other 52 refl, tt))

  over_free : (text : List ℕ) (d : ℕ) → p 47 ≡ false → SpellsOver text d → Free p text
  over_free [] d slash s = tt
  over_free (c ∷ cs) d slash s = (ap p s.0 ∙ slash, divisor_free cs d s.1)

  pub ratio_free : (most : ℕ) (text : List ℕ) (n d : ℕ) → p 47 ≡ false → SpellsRatio most text n d → Free p text
  ratio_free most text n d slash s =
      is_free text _ s.joined (Free-append p s.front s.over (digits_free p other s.front s.whole.spelled.digits) (over_free s.over d slash s.divisor))
