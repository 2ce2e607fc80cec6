-- What the words of numbers, fractions and coordinates spell is within the ranges of the format.
--
-- IsWithin-signed, sum-in_range: a number with its sign; the items of a sum
-- number-in_range, fraction-in_range, place-in_range, tolerance-in_range: the words
-- each-in_range, each-length, three-in_range: words in a row
-- apart: the parts of a test
use Rattle.std.proofs.Common.{◌≡◌, ℕ, zero, suc, ℤ, pos, ◌+◌, ◌-◌, ◌*◌, ◌/◌, ◌%◌, ◌^◌, ◌<◌, ◌≤◌, ◌≤ℤ◌, Bool, true, false, ◌&&◌, List, [], ◌∷◌, length, refl, sym, ◌∙◌, ap, subst, inl, inr, arith}
use Prim.Native.Nat.{◌∣◌}
use Rattle.std.specs.Prelude.{fold}
use Rattle.std.specs.Char.{is_ascii_digit}
use Rattle.std.specs.Int.RustNames.{unsigned_abs}
use Rattle.std.specs.List.{All, list_all}
use Rattle.iso_text.proofs.DigitLemmas.{next_digit}
use Rattle.std.proofs.Math.Nat.{div-le_self, div-mul_cancel, dvd-mul_right}
use Rattle.std.proofs.lemmas.Bool.Decides.{nat_tests}
use Rattle.std.proofs.lemmas.Int.{ints}
use Rattle.std.proofs.lemmas.List.Elements.{All-nil, All-cons}
use Rattle.std.proofs.lemmas.Nat.Gcd.{dvd_of_mod-eq-zero, mod-eq-zero_of_dvd, dvd_trans}
use Rattle.iso_text.specs.Digits.{decimal, with_digit}
use Rattle.iso_text.specs.DivisorLaws.{common_divisor-is}
use Rattle.iso_text.specs.FractionLaws.{lowest-terms}
use Rattle.iso_text.specs.Fractions.{signed, lowest, common_divisor, edge_units}
use Rattle.iso_text.specs.LowestLaws.{lowest-unique}
use Rattle.iso_text.specs.Numbers.{term}
use Rattle.iso_text.specs.Spellings.{SpellsDigits, SpellsDivisor, SpellsOver, SpellsKFraction, SpellsUnits, SpellsPlace, SpellsTolerance}
use Rattle.iso_text.specs.SumSpellings.{SpellsUnit, SpellsTerm, SpellsMore, SpellsSum, SpellsNumber}
use Rattle.iso_text.specs.WordRanges.{IsWithin, IsUnit, IsTerm, IsNumber, IsFraction, IsPlace, AreThree}
use Rattle.iso_text.specs.WordSpellings.{Each, Three}
use Rattle.iso_text.specs.declared.numbers.Frac.{Frac}
use Rattle.iso_text.specs.declared.numbers.Term.{Term}
use Rattle.iso_text.specs.declared.numbers.Unit.{Unit as TermUnit}
use Rattle.iso_text.specs.declared.numbers.Unit.TheVariants.{One}

-- signs
pub IsWithin-signed : (negative : Bool) (m n : ℕ) → m ≤ n → IsWithin n (signed negative m)
IsWithin-signed false m n l = (omega (arith, ints), omega (arith, ints))
IsWithin-signed true zero n l = (omega (arith, ints), omega (arith, ints))
IsWithin-signed true (suc m) n l = (omega (arith, ints), omega (arith, ints))

size_of : (negative : Bool) (n : ℕ) → unsigned_abs (signed negative n) ≡ n
size_of false n = refl
size_of true zero = refl
size_of true (suc n) = refl

-- divisors
abbrev IsDivisor : ℕ → Type 0
IsDivisor d = (0 < d) × (24 % d ≡ 0)

divisor_at : (d k : ℕ) → d ≡ k → 0 < k → 24 % k ≡ 0 → IsDivisor d
divisor_at d k e some over = (omega arith, ap (λ t. 24 % t) e ∙ over)

divisor_is : (text : List ℕ) (d : ℕ) → SpellsDivisor text d → IsDivisor d
divisor_is text d (inl w) = divisor_at d 1 w.1 (omega arith) refl
divisor_is text d (inr (inl w)) = divisor_at d 2 w.1 (omega arith) refl
divisor_is text d (inr (inr (inl w))) = divisor_at d 3 w.1 (omega arith) refl
divisor_is text d (inr (inr (inr (inl w)))) = divisor_at d 4 w.1 (omega arith) refl
divisor_is text d (inr (inr (inr (inr (inl w))))) = divisor_at d 6 w.1 (omega arith) refl
divisor_is text d (inr (inr (inr (inr (inr (inl w)))))) = divisor_at d 8 w.1 (omega arith) refl
divisor_is text d (inr (inr (inr (inr (inr (inr (inl w))))))) = divisor_at d 12 w.1 (omega arith) refl
divisor_is text d (inr (inr (inr (inr (inr (inr (inr w))))))) = divisor_at d 24 w.1 (omega arith) refl

over_is : (text : List ℕ) (d : ℕ) → SpellsOver text d → IsDivisor d
over_is [] d over = divisor_at d 1 over (omega arith) refl
over_is (c ∷ cs) d over = divisor_is cs d over.1

-- numbers
unit-in_range : (text : List ℕ) (u : TermUnit) → SpellsUnit text u → IsUnit u
unit-in_range text u (inl s) = subst IsUnit (sym s.value) s.small
unit-in_range text u (inr (inl w)) = subst IsUnit (sym w.1) tt
unit-in_range text u (inr (inr (inl w))) = subst IsUnit (sym w.1) tt
unit-in_range text u (inr (inr (inr (inl w)))) = subst IsUnit (sym w.1) tt
unit-in_range text u (inr (inr (inr (inr w)))) = subst IsUnit (sym w.1) tt

term_is : (negative : Bool) (n d : ℕ) (u : TermUnit) → n ≤ 10000 → IsDivisor d → IsUnit u → IsTerm (term negative (n, d) u)
term_is negative n d u small over power = record { numerator = subst (λ k. k ≤ 10000) (sym (size_of negative n)) small; positive = over.0; divides = over.1; power = power }

term-in_range : (negative : Bool) (text : List ℕ) (t : Term) → SpellsTerm negative text t → IsTerm t
term-in_range negative text t (inl s) = subst IsTerm (sym s.value) (term_is negative s.num s.den One s.coefficient.small (over_is s.coefficient.ratio.over s.den s.coefficient.ratio.divisor) tt)
term-in_range negative text t (inr (inl s)) = subst IsTerm (sym s.value) (term_is negative 1 1 s.unit (omega arith) (omega arith, refl) (unit-in_range text s.unit s.spelled))
term-in_range negative text t (inr (inr s)) =
    subst IsTerm (sym s.value) (term_is negative s.num s.den s.unit s.coefficient.small (over_is s.coefficient.ratio.over s.den s.coefficient.ratio.divisor) (unit-in_range s.behind s.unit s.spelled))

module _ {V : Type 0} (P : Bool → List ℕ → V → Type 0) (Q : V → Type 0) (law : (negative : Bool) (text : List ℕ) (v : V) → P negative text v → Q v) where
  more-in_range : (text : List ℕ) (vs : List V) → SpellsMore P text vs → All Q vs
  more-in_range text [] more = All-nil Q
  more-in_range text (v ∷ vs) more = All-cons Q v vs (law more.0 more.1 v more.4) (more-in_range more.2 vs more.5)

  pub sum-in_range : (text : List ℕ) (vs : List V) → SpellsSum P text vs → All Q vs
  sum-in_range text vs s = subst (λ ws. All Q ws) (sym s.values) (All-cons Q s.first s.rest (law s.negative s.item s.first s.spelled) (more-in_range s.others s.rest s.more))

pub number-in_range : (text : List ℕ) (ts : List Term) → SpellsNumber text ts → IsNumber ts
number-in_range text ts s = record { some = omega (arith, ap (λ vs. length vs) s.sum.values); few = s.few; terms = sum-in_range SpellsTerm IsTerm term-in_range text ts s.sum }

-- fractions
twelfth : (d : ℕ) → 0 < d → d ≤ 6 → 24 % d ≡ 0 → 12 % d ≡ 0
twelfth zero some few over = absurd (omega arith)
twelfth (suc zero) some few over = refl
twelfth (suc (suc zero)) some few over = refl
twelfth (suc (suc (suc zero))) some few over = refl
twelfth (suc (suc (suc (suc zero)))) some few over = refl
twelfth (suc (suc (suc (suc (suc zero))))) some few over = absurd (omega arith)
twelfth (suc (suc (suc (suc (suc (suc zero)))))) some few over = refl
twelfth (suc (suc (suc (suc (suc (suc (suc d))))))) some few over = absurd (omega arith)

lowest-in_range : (negative : Bool) (n d : ℕ) → n ≤ 24 → 0 < d → d ≤ 6 → 12 % d ≡ 0 → IsFraction (lowest negative n d)
lowest-in_range negative n d small some few over =
    let g = common_divisor n d in
    let whole : d / g * g ≡ d = div-mul_cancel g (common_divisor-is n d some few).1 in
    let part : d / g ∣ d = subst (λ t. d / g ∣ t) whole (dvd-mul_right (d / g) g) in
    let terms = lowest-terms negative n d some few in
    record {
      positive = terms.positive;
      few = omega (arith, div-le_self d g, few);
      divides = mod-eq-zero_of_dvd (d / g) (dvd_trans (d / g) part (dvd_of_mod-eq-zero d over));
      near = IsWithin-signed negative (n / g) 24 (omega (arith, div-le_self n g, small));
      lowest = terms.coprime;
    }

pub fraction-in_range : (text : List ℕ) (v : Frac) → SpellsKFraction text v → IsFraction v
fraction-in_range text v s =
    let over = over_is s.ratio.over s.den s.ratio.divisor in
    let is : v ≡ lowest s.negative s.num s.den = lowest-unique (signed s.negative s.num) s.den v (lowest s.negative s.num s.den) over.0 s.value (lowest-terms s.negative s.num s.den over.0 s.divisor) in
    subst IsFraction (sym is) (lowest-in_range s.negative s.num s.den s.small over.0 s.divisor (twelfth s.den over.0 s.divisor over.1))

-- coordinates
digit_below : (c : ℕ) → is_ascii_digit c ≡ true → c < 58
digit_below c digit = grind (arith, nat_tests)

pub apart : (a b : Bool) → (a && b) ≡ true → (a ≡ true) × (b ≡ true)
apart true b e = (refl, e)
apart false b e = absurd (cc)

decimal_below_from : (text : List ℕ) (n i : ℕ) → n < 10 ^ i → list_all is_ascii_digit text ≡ true → fold with_digit n text < 10 ^ (i + length text)
decimal_below_from [] n i small digits = subst (λ k. n < 10 ^ k) (omega arith) small
decimal_below_from (c ∷ cs) n i small digits =
    let parts = apart (is_ascii_digit c) (list_all is_ascii_digit cs) digits in
    let more = decimal_below_from cs (with_digit n c) (i + 1) (next_digit n i c small (digit_below c parts.0)) parts.1 in
    subst (λ k. fold with_digit n (c ∷ cs) < 10 ^ k) (omega arith) more

decimal_below : (text : List ℕ) → list_all is_ascii_digit text ≡ true → decimal text < 10 ^ length text
decimal_below text digits = subst (λ k. decimal text < 10 ^ k) (omega arith) (decimal_below_from text 0 0 (omega arith) digits)

digits_below : (most : ℕ) (text : List ℕ) (n : ℕ) → SpellsDigits most text n → n < 10 ^ length text
digits_below most text n s = subst (λ k. k < 10 ^ length text) (sym s.value) (decimal_below text s.digits)

two_digits : (n k : ℕ) → k ≤ 2 → n < 10 ^ k → n ≤ 99
two_digits n zero few small = omega (arith, small)
two_digits n (suc zero) few small = omega (arith, small)
two_digits n (suc (suc zero)) few small = omega (arith, small)
two_digits n (suc (suc (suc k))) few small = absurd (omega arith)

six_digits : (n k : ℕ) → k ≤ 6 → n < 10 ^ k → n * 10 ^ (6 - k) ≤ 999999
six_digits n zero few small = omega (arith, small)
six_digits n (suc zero) few small = omega (arith, small)
six_digits n (suc (suc zero)) few small = omega (arith, small)
six_digits n (suc (suc (suc zero))) few small = omega (arith, small)
six_digits n (suc (suc (suc (suc zero)))) few small = omega (arith, small)
six_digits n (suc (suc (suc (suc (suc zero))))) few small = omega (arith, small)
six_digits n (suc (suc (suc (suc (suc (suc zero)))))) few small = omega (arith, small)
six_digits n (suc (suc (suc (suc (suc (suc (suc k))))))) few small = absurd (omega arith)

fraction_at : (n d k : ℕ) → d ≡ k → n ≤ 99 * d → n * (edge_units / k) ≤ 1188000000 → n * (edge_units / d) ≤ 1188000000
fraction_at n d k e small most = subst (λ t. n * (edge_units / t) ≤ 1188000000) (sym e) most

fraction_units : (text : List ℕ) (n d : ℕ) → n ≤ 99 * d → SpellsDivisor text d → n * (edge_units / d) ≤ 1188000000
fraction_units text n d small (inl w) = fraction_at n d 1 w.1 small (omega (arith, w.1, small))
fraction_units text n d small (inr (inl w)) = fraction_at n d 2 w.1 small (omega (arith, w.1, small))
fraction_units text n d small (inr (inr (inl w))) = fraction_at n d 3 w.1 small (omega (arith, w.1, small))
fraction_units text n d small (inr (inr (inr (inl w)))) = fraction_at n d 4 w.1 small (omega (arith, w.1, small))
fraction_units text n d small (inr (inr (inr (inr (inl w))))) = fraction_at n d 6 w.1 small (omega (arith, w.1, small))
fraction_units text n d small (inr (inr (inr (inr (inr (inl w)))))) = fraction_at n d 8 w.1 small (omega (arith, w.1, small))
fraction_units text n d small (inr (inr (inr (inr (inr (inr (inl w))))))) = fraction_at n d 12 w.1 small (omega (arith, w.1, small))
fraction_units text n d small (inr (inr (inr (inr (inr (inr (inr w))))))) = fraction_at n d 24 w.1 small (omega (arith, w.1, small))

units_below : (body : List ℕ) (units : ℕ) → SpellsUnits body units → units ≤ 1199999988
units_below body units (inl s) = omega (arith, s.2, two_digits s.0 (length body) s.1.spelled.few (digits_below 2 body s.0 s.1.spelled))
units_below body units (inr (inl s)) =
    let whole = two_digits s.whole (length s.edges) s.before.few (digits_below 2 s.edges s.whole s.before) in
    let part = six_digits s.part (length s.digits) s.behind.few (digits_below 6 s.digits s.part s.behind) in
    omega (arith, s.value, whole, part)
units_below body units (inr (inr s)) = omega (arith, s.value, fraction_units s.divisor s.num s.den s.small s.over)

pub place-in_range : (text : List ℕ) (x : ℤ) → SpellsPlace text x → IsPlace x
place-in_range text x s = subst IsPlace (sym s.value) (IsWithin-signed s.negative s.units 1199999988 (units_below s.body s.units s.spelled))

pub tolerance-in_range : (text : List ℕ) (t : ℤ) → SpellsTolerance text t → (pos 0 ≤ℤ t) × (t ≤ℤ pos 2999999)
tolerance-in_range text t s =
    let Small : ℤ → Type 0 = λ x. (pos 0 ≤ℤ x) × (x ≤ℤ pos 2999999) in
    subst Small (sym s.2) (omega (arith, ints), omega (arith, ints, s.3))

-- words in a row
module _ {V : Type 0} (P : List ℕ → V → Type 0) (Q : V → Type 0) (law : (text : List ℕ) (v : V) → P text v → Q v) where
  pub each-in_range : (words : List (List ℕ)) (vs : List V) → Each P words vs → All Q vs
  each-in_range [] [] each = All-nil Q
  each-in_range [] (v ∷ vs) each = absurd each
  each-in_range (word ∷ words) [] each = absurd each
  each-in_range (word ∷ words) (v ∷ vs) each = All-cons Q v vs (law word v each.0) (each-in_range words vs each.1)

  pub each-length : (words : List (List ℕ)) (vs : List V) → Each P words vs → length vs ≡ length words
  each-length [] [] each = refl
  each-length [] (v ∷ vs) each = absurd each
  each-length (word ∷ words) [] each = absurd each
  each-length (word ∷ words) (v ∷ vs) each = omega (arith, each-length words vs each.1)

  pub three-in_range : (words : List (List ℕ)) (vs : List V) → Three P words vs → AreThree Q vs
  three-in_range words vs s = record { count = each-length words vs s.each ∙ s.count; each = each-in_range words vs s.each }
