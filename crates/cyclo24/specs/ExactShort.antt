-- The field of the exact values of Q(sqrt 2, sqrt 3) where only short numbers are kept.
--
-- short24: the exact values with the laws and the order of K24. An operation is wide where its exact result is long
-- is_short24 x, is_short_rational x: the exact values that a short type holds
-- IsShortField f value exact: f is this field, and the values stand for those of exact
use Rattle.std.specs.Prelude.{◌≡◌, Bool, not, ◌&&◌, take, drop}
use Rattle.cyclo24.specs.ExactField.{ExactField, Value}
use Rattle.cyclo24.specs.ExactK24.{Exact24, k24_laws, k24}
use Rattle.cyclo24.specs.Gcd.{all_zero}
use Rattle.cyclo24.specs.Long.{is_long}

-- the same field, whose operations are wide where their results are long
abbrev pub short24 : ExactField
short24 = record {
  valid = k24.valid;
  laws = k24_laws;
  characteristic_zero = k24.characteristic_zero;
  is_wide_sum = λ x y. is_long (k24_laws.plus x y).0;
  is_wide_difference = λ x y. is_long (k24_laws.plus x (k24_laws.neg y)).0;
  is_wide_product = λ x y. is_long (k24_laws.times x y).0;
  is_wide_inverse = λ x. is_long (k24_laws.inverse x).0;
  cmp = k24.cmp;
  cmp_total = k24.cmp_total;
  cmp-Equal = k24.cmp-Equal;
}

-- all numbers of x in lowest terms are short
abbrev pub is_short24 : Exact24 → Bool
is_short24 x = not (is_long x.0)

-- the coefficients of r2, r3 and r6 are 0
abbrev pub is_rational24 : Exact24 → Bool
is_rational24 x = all_zero (take 3 (drop 1 x.0))

-- a field with what its values stand for
abbrev pub valued : {A : Type 0} (f : ExactField) → (A → Value f) → (f : ExactField) × (A → Value f)
valued f value = (f, value)

-- f is this field, and the values stand for those of exact
abbrev pub IsShortField : {A : Type 0} (f : ExactField) → (A → Value f) → (A → Exact24) → Type 0
IsShortField f value exact = valued f value ≡ valued short24 exact
