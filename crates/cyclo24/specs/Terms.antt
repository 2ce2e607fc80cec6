-- Sums of terms, each a fraction times a unit.
--
-- unit_value u, term_value t, terms_value ts: the exact values of a unit, a term and a sum of terms
-- unit8 u, term8 t, terms8 ts: the coefficients of 1, z, .., z^7 in a unit, and in 24 times a term and a sum of terms
use Rattle.std.specs.Prelude.{ℕ, ◌≤◌, ◌/◌, ℤ, pos, ◌*ℤ◌, List, [], ◌∷◌, get_or}
use Rattle.std.specs.Int.RustNames.{unsigned_abs}
use Rattle.iso_text.specs.declared.numbers.Term.{Term}
use Rattle.iso_text.specs.declared.numbers.Unit.{Unit as TermUnit}
use Rattle.iso_text.specs.declared.numbers.Unit.TheVariants.{One, Z, I, R2, R3, R6}
use Rattle.cyclo24.specs.declared.fraction8.Fraction8.{Fraction8}
use Rattle.algebra.specs.Whole.{whole}
use Rattle.cyclo24.specs.Numerals.{of_whole}
use Rattle.cyclo24.specs.Eight.{Eight, add8, num8}
use Rattle.cyclo24.specs.EightParts.{real8}
use Rattle.cyclo24.specs.ExactZ24.{ExactZ24, z24_laws, power, imaginary, from_real}
use Rattle.cyclo24.specs.RootsK24.{r2, r3, r6}
use Rattle.cyclo24.specs.Z24Roots.{power8, four2, four3, four6}

-- the exact value of a unit
abbrev pub unit_value : TermUnit → ExactZ24
unit_value One = z24_laws.unit
unit_value (Z n) = power n
unit_value I = imaginary
unit_value R2 = from_real r2
unit_value R3 = from_real r3
unit_value R6 = from_real r6

-- n / d
abbrev pub ratio_value : ℤ → ℕ → ExactZ24
ratio_value n d = z24_laws.times (of_whole z24_laws n) (z24_laws.inverse (of_whole z24_laws (pos d)))

-- n / d times the unit
abbrev pub term_value : Term → ExactZ24
term_value t = z24_laws.times (ratio_value t.num t.den) (unit_value t.unit)

-- the sum
abbrev pub terms_value : List Term → ExactZ24
terms_value [] = z24_laws.nought
terms_value (t ∷ ts) = z24_laws.plus (term_value t) (terms_value ts)

-- the coefficients of a unit
unfoldable pub unit8 : TermUnit → Eight ℤ
unit8 One = power8 0
unit8 (Z n) = power8 n
unit8 I = power8 6
unit8 R2 = real8 whole four2
unit8 R3 = real8 whole four3
unit8 R6 = real8 whole four6

-- the numbers f x
abbrev pub scale8 : ℤ → Eight ℤ → Eight ℤ
scale8 f x = record {
  c0 = f *ℤ x.c0;
  c1 = f *ℤ x.c1;
  c2 = f *ℤ x.c2;
  c3 = f *ℤ x.c3;
  c4 = f *ℤ x.c4;
  c5 = f *ℤ x.c5;
  c6 = f *ℤ x.c6;
  c7 = f *ℤ x.c7;
}

-- 24 n / d
abbrev pub factor_of : Term → ℤ
factor_of t = t.num *ℤ pos (24 / t.den)

-- 24 times a term
abbrev pub term8 : Term → Eight ℤ
term8 t = scale8 (factor_of t) (unit8 t.unit)

-- 24 times a sum of terms
abbrev pub terms8 : List Term → Eight ℤ
terms8 [] = num8 whole (pos 0)
terms8 (t ∷ ts) = add8 whole (term8 t) (terms8 ts)

-- a row of eight numbers
abbrev pub row8 : List ℤ → Eight ℤ
row8 xs = record {
  c0 = get_or xs 0 (pos 0);
  c1 = get_or xs 1 (pos 0);
  c2 = get_or xs 2 (pos 0);
  c3 = get_or xs 3 (pos 0);
  c4 = get_or xs 4 (pos 0);
  c5 = get_or xs 5 (pos 0);
  c6 = get_or xs 6 (pos 0);
  c7 = get_or xs 7 (pos 0);
}

-- each numerator is at most n in absolute value
pub record AreAtMost (n : ℕ) (s : Fraction8) : Type 0 where
  pub most0 : unsigned_abs s.c0.n ≤ n
  pub most1 : unsigned_abs s.c1.n ≤ n
  pub most2 : unsigned_abs s.c2.n ≤ n
  pub most3 : unsigned_abs s.c3.n ≤ n
  pub most4 : unsigned_abs s.c4.n ≤ n
  pub most5 : unsigned_abs s.c5.n ≤ n
  pub most6 : unsigned_abs s.c6.n ≤ n
  pub most7 : unsigned_abs s.c7.n ≤ n
