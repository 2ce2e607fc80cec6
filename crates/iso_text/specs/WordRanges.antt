-- The ranges of what words say.
--
-- IsWithin n x: x is at most n in absolute value
-- IsTerm t, IsNumber ts, AreNumbers n ns: a term; 1 to 16 of them; so many numbers
-- IsDenominator d, IsFraction v: a fraction of a wave vector or a cell, and its denominator; IsPlace x: a coordinate
-- IsOperation op: entries from -3 to 3, shifts of at most 120 cell edges
-- AreThree P vs, AreAtMost n P vs: three values, at most n values, each of them so
use Rattle.std.specs.Prelude.{◌≡◌, ℕ, ◌<◌, ◌≤◌, ◌%◌, ℤ, pos, ◌+ℤ◌, ◌≤ℤ◌, List, length}
use Rattle.std.specs.Int.{IsGcd}
use Rattle.std.specs.Int.RustNames.{unsigned_abs}
use Rattle.std.specs.List.{All}
use Rattle.iso_text.specs.declared.numbers.Frac.{Frac}
use Rattle.iso_text.specs.declared.numbers.OpText.{OpText}
use Rattle.iso_text.specs.declared.numbers.Term.{Term}
use Rattle.iso_text.specs.declared.numbers.Unit.{Unit as TermUnit}
use Rattle.iso_text.specs.declared.numbers.Unit.TheVariants.{Z}

-- from -n to n
abbrev pub IsWithin : ℕ → ℤ → Type 0
IsWithin n x = (pos 0 ≤ℤ (pos n +ℤ x)) × (x ≤ℤ pos n)

-- a power of z is below 24
abbrev pub IsUnit : TermUnit → Type 0
IsUnit (Z n) = n < 24
IsUnit _ = Unit {0}

-- the denominator divides 24, and the numerator is at most 10,000 in absolute value
pub record IsTerm (t : Term) : Type 0 where
  pub numerator : unsigned_abs t.num ≤ 10000
  pub positive : 0 < t.den
  pub divides : 24 % t.den ≡ 0
  pub power : IsUnit t.unit

-- 1 to 16 terms
pub record IsNumber (ts : List Term) : Type 0 where
  pub some : 1 ≤ length ts
  pub few : length ts ≤ 16
  pub terms : All IsTerm ts

-- so many numbers
pub record AreNumbers (n : ℕ) (numbers : List (List Term)) : Type 0 where
  pub count : length numbers ≡ n
  pub each : All IsNumber numbers

-- a denominator of a wave vector: 1, 2, 3, 4 or 6
pub record IsDenominator (d : ℕ) : Type 0 where
  pub positive : 0 < d
  pub few : d ≤ 6
  pub divides : 12 % d ≡ 0

-- in lowest terms, over 1, 2, 3, 4 or 6, the numerator at most 24 in absolute value
pub record IsFraction (v : Frac) : Type 0 where
  pub positive : 0 < v.den
  pub few : v.den ≤ 6
  pub divides : 12 % v.den ≡ 0
  pub near : IsWithin 24 v.num
  pub lowest : IsGcd (unsigned_abs v.num) v.den 1

-- at most 99.999999 cell edges, in units
abbrev pub IsPlace : ℤ → Type 0
IsPlace x = IsWithin 1199999988 x

-- three values, each so
pub record AreThree {V : Type 0} (P : V → Type 0) (vs : List V) : Type 0 where
  pub count : length vs ≡ 3
  pub each : All P vs

-- entries from -3 to 3, shifts of at most 120 cell edges, in twelfths
pub record IsOperation (op : OpText) : Type 0 where
  pub rows : AreThree (AreThree (IsWithin 3)) op.rows
  pub shift : AreThree (IsWithin 1440) op.shift

-- at most so many, each so
pub record AreAtMost {V : Type 0} (most : ℕ) (P : V → Type 0) (vs : List V) : Type 0 where
  pub few : length vs ≤ most
  pub each : All P vs
