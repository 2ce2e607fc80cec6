-- Whole numbers as file terms, and the bound on rows.
use Rattle.std.specs.Prelude.{pos, [], ◌∷◌}
use Rattle.std.proofs.Common.{◌≡◌, sym, ap, ◌∙◌, ℕ, ◌≤◌, ◌*◌, arith}
use Rattle.std.proofs.Math.Nat.{mul-le-mul_left}
use Rattle.cyclo24.specs.ExactZ24.{ExactZ24, z24_laws}
use Rattle.iso_text.specs.declared.numbers.Term.{Term}
use Rattle.iso_text.specs.declared.numbers.Unit.TheVariants.{One}
use Rattle.cyclo24.specs.FieldOn.{FieldOn}
use Rattle.cyclo24.specs.FieldLaws.{unit-times}
use Rattle.cyclo24.specs.Numerals.{of_whole}
use Rattle.cyclo24.specs.Terms.{terms_value, unit_value}

-- at most 48 arms of at most 6 rows
pub few_rows : (a b : ℕ) → a ≤ 48 → b ≤ 6 → a * b ≤ 288
few_rows a b l m =
    let c : a * b ≤ a * 6 = mul-le-mul_left a m in
    omega (arith, c, l)

-- n / 1 times 1, and 0
whole_over_one : {K : Type 0} (f : FieldOn K) (a : K) → f.plus (f.times (f.times a (f.inverse (f.plus f.unit f.nought))) f.unit) f.nought ≡ a
whole_over_one f a =
    let i : f.inverse f.unit ≡ f.unit = sym (unit-times f (f.inverse f.unit)) ∙ f.times-inverse f.unit f.is_nought-unit in
    f.plus-nought (f.times (f.times a (f.inverse (f.plus f.unit f.nought))) f.unit) ∙ f.times-unit (f.times a (f.inverse (f.plus f.unit f.nought)))
    ∙ ap (λ u. f.times a (f.inverse u)) (f.plus-nought f.unit) ∙ ap (f.times a) i ∙ f.times-unit a

-- a file's term for a whole number
pub whole_term : (n : ℕ) (t : Term) → t.num ≡ pos n → t.den ≡ 1 → t.unit ≡ One → (y : ExactZ24) → y ≡ terms_value (t ∷ []) → y ≡ of_whole z24_laws (pos n)
whole_term n t e d u y f =
    f ∙ (λ i. z24_laws.plus (z24_laws.times (z24_laws.times (of_whole z24_laws (e i)) (z24_laws.inverse (of_whole z24_laws (pos (d i))))) (unit_value (u i))) z24_laws.nought)
    ∙ whole_over_one z24_laws (of_whole z24_laws (pos n))
