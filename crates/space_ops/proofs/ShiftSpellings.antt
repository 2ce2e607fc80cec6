-- A number and a translation as they are printed are a number and a fraction of a file's words.
use Rattle.std.proofs.Common.{◌≡◌, ◌∙◌, refl, sym, ap, ℕ, ◌*◌, ◌/◌, ◌%◌, ◌^◌, ◌==◌, ◌<◌, ◌≤◌, Bool, true, List, [], ◌∷◌, ◌++◌, codes, decimal, fold, if◌then◌else◌, inl, inr, arith, rules}
use Rattle.std.specs.List.{list_all}
use Rattle.std.specs.Char.{is_ascii_digit}
use Rattle.std.proofs.Math.Nat.{div-le_self}
use Rattle.std.proofs.lemmas.Bool.{eqb-true}
use Rattle.std.proofs.lemmas.Fmt.{decimal_digit, decimal_step, decimal_nonempty, length-decimal-le, digits_decimal, digits_value-decimal}
use Rattle.std.proofs.lemmas.Str.Parse.{IsNumeralModel, numerals_by_fold}
use Rattle.algebra.specs.SolveLaws.{by_test}
use Rattle.iso_text.specs.Digits.{decimal as number_of_digits, with_digit}
use Rattle.iso_text.specs.Fractions.{signed}
use Rattle.iso_text.specs.Spellings.{SpellsWhole, SpellsOver, SpellsRatio}
use Rattle.iso_text.specs.OperationSpellings.{SpellsShift}
use Rattle.iso_text.specs.declared.operation_words.Part.TheVariants.{Shift}
use Rattle.space_ops.specs.OpText.{common_with_twelve, fraction_text}

-- the digits of a file's words, and their number
digits_model : IsNumeralModel (λ ds. list_all is_ascii_digit ds ≡ true) (λ ds. number_of_digits ds)
digits_model = numerals_by_fold _ (search rules) (λ n text. fold with_digit n text) (search rules)

pub whole-spelled : (most n : ℕ) → 0 < most → n < 10 ^ most → n < 2 ^ 64 → SpellsWhole most (decimal n) n
whole-spelled most n some few small = record {
  some = decimal_nonempty n small;
  spelled = record { few = length-decimal-le most n some few small; digits = digits_decimal digits_model n small; value = sym (digits_value-decimal digits_model n small) };
}

-- nothing for 1, or a stroke and the denominator
abbrev pub over_text : ℕ → List ℕ
over_text d = if d == 1 then [] else codes "/" ++ decimal d

pub ratio-spelled : (n d : ℕ) → n ≤ 120 → SpellsOver (over_text d) d → SpellsRatio 3 (fraction_text n d) n d
ratio-spelled n d small over = record {
  front = decimal n;
  over = over_text d;
  joined = refl;
  whole = whole-spelled 3 n (omega arith) (omega arith) (omega arith);
  divisor = over;
}

-- n twelfths over 12, with the common divisor g taken out
record IsLowered (n g : ℕ) : Type 0 where
  over : SpellsOver (over_text (12 / g)) (12 / g)
  divides : 12 % (12 / g) ≡ 0
  back : n / g * (12 / (12 / g)) ≡ n

twelve : decimal 12 ≡ codes "12"
twelve = decimal_step 12 (omega arith) (omega arith) ∙ ap (λ ds. ds ++ (50 ∷ [])) (decimal_digit 1 (omega arith))

lowered-twelve : (n : ℕ) → n % 12 ≡ 0 → IsLowered n 12
lowered-twelve n e = record { over = refl; divides = refl; back = omega (arith, e) }

lowered-six : (n : ℕ) → n % 6 ≡ 0 → IsLowered n 6
lowered-six n e = record { over = (refl, inr (inl (decimal_digit 2 (omega arith), refl))); divides = refl; back = omega (arith, e) }

lowered-four : (n : ℕ) → n % 4 ≡ 0 → IsLowered n 4
lowered-four n e = record { over = (refl, inr (inr (inl (decimal_digit 3 (omega arith), refl)))); divides = refl; back = omega (arith, e) }

lowered-three : (n : ℕ) → n % 3 ≡ 0 → IsLowered n 3
lowered-three n e = record { over = (refl, inr (inr (inr (inl (decimal_digit 4 (omega arith), refl))))); divides = refl; back = omega (arith, e) }

lowered-two : (n : ℕ) → n % 2 ≡ 0 → IsLowered n 2
lowered-two n e = record { over = (refl, inr (inr (inr (inr (inl (decimal_digit 6 (omega arith), refl)))))); divides = refl; back = omega (arith, e) }

lowered-one : (n : ℕ) → IsLowered n 1
lowered-one n = record { over = (refl, inr (inr (inr (inr (inr (inr (inl (twelve, refl)))))))); divides = refl; back = omega arith }

-- one step of the search for the divisor
divisor-step : (n d g : ℕ) → (n % d ≡ 0 → IsLowered n d) → IsLowered n g → IsLowered n (if n % d == 0 then d else g)
divisor-step n d g at_once later = by_test (λ b. IsLowered n (if b then d else g)) (n % d == 0) (λ e. at_once (eqb-true (n % d) 0 e)) (λ e. later)

lowered : (n : ℕ) → IsLowered n (common_with_twelve n)
lowered n =
    divisor-step n 12 _ (lowered-twelve n)
    (divisor-step n 6 _ (lowered-six n) (divisor-step n 4 _ (lowered-four n) (divisor-step n 3 _ (lowered-three n) (divisor-step n 2 1 (lowered-two n) (lowered-one n)))))

-- n twelfths in lowest terms
pub shift-spelled : (negative : Bool) (n : ℕ) → n ≤ 120 → SpellsShift negative (fraction_text (n / common_with_twelve n) (12 / common_with_twelve n)) (Shift (signed negative n))
shift-spelled negative n small =
    let g = common_with_twelve n in
    let low = lowered n in
    let few : n / g ≤ 120 = omega (arith, div-le_self n g) in
    record {
      num = n / g;
      den = 12 / g;
      ratio = ratio-spelled (n / g) (12 / g) few low.over;
      small = few;
      divisor = low.divides;
      value = ap (λ m. Shift (signed negative m)) (sym low.back);
    }
