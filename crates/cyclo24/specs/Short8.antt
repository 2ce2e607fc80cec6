-- Eight numerators over a denominator whose products and sums are computed in 64 bits.
--
-- short_of r: a fraction in 64 bits; eight_of r, numerators r: its numerators
-- IsWithin8 n r: all nine numbers are at most n in absolute value
-- IsRational8 r: a rational number whose parts are at most 2^28 in absolute value
-- rational n: the numerators of a rational number
use Rattle.std.specs.Prelude.{◌≡◌, ℕ, ◌≤◌, ◌^◌, pos, ℤ, List, [], ◌∷◌}
use Rattle.std.specs.Int.RustNames.{unsigned_abs}
use Rattle.cyclo24.specs.declared.short8.Short8.{Short8}
use Rattle.cyclo24.specs.declared.fraction8.Fraction8.{Fraction8}
use Rattle.cyclo24.specs.Eight.{Eight}

-- the same numbers
abbrev pub short_of : Fraction8 → Short8
short_of r = record { d = record { n = r.d.n }; c0 = record { n = r.c0.n }; c1 = record { n = r.c1.n }; c2 = record { n = r.c2.n }; c3 = record { n = r.c3.n }; c4 = record { n = r.c4.n }; c5 = record { n = r.c5.n }; c6 = record { n = r.c6.n }; c7 = record { n = r.c7.n } }

abbrev pub eight_of : Short8 → Eight ℤ
eight_of r = record { c0 = r.c0.n; c1 = r.c1.n; c2 = r.c2.n; c3 = r.c3.n; c4 = r.c4.n; c5 = r.c5.n; c6 = r.c6.n; c7 = r.c7.n }

abbrev pub numerators : Short8 → List ℤ
numerators r = r.c0.n ∷ r.c1.n ∷ r.c2.n ∷ r.c3.n ∷ r.c4.n ∷ r.c5.n ∷ r.c6.n ∷ r.c7.n ∷ []

-- all nine numbers are at most n in absolute value
pub record IsWithin8 (n : ℕ) (r : Short8) : Type 0 where
  pub d : unsigned_abs r.d.n ≤ n
  pub c0 : unsigned_abs r.c0.n ≤ n
  pub c1 : unsigned_abs r.c1.n ≤ n
  pub c2 : unsigned_abs r.c2.n ≤ n
  pub c3 : unsigned_abs r.c3.n ≤ n
  pub c4 : unsigned_abs r.c4.n ≤ n
  pub c5 : unsigned_abs r.c5.n ≤ n
  pub c6 : unsigned_abs r.c6.n ≤ n
  pub c7 : unsigned_abs r.c7.n ≤ n

-- a rational number whose parts are at most 2^28 in absolute value
pub record IsRational8 (r : Fraction8) : Type 0 where
  pub d : unsigned_abs r.d.n ≤ 2 ^ 28
  pub c0 : unsigned_abs r.c0.n ≤ 2 ^ 28
  pub c1 : r.c1.n ≡ pos 0
  pub c2 : r.c2.n ≡ pos 0
  pub c3 : r.c3.n ≡ pos 0
  pub c4 : r.c4.n ≡ pos 0
  pub c5 : r.c5.n ≡ pos 0
  pub c6 : r.c6.n ≡ pos 0
  pub c7 : r.c7.n ≡ pos 0

-- the numerators of a rational number
abbrev pub rational : ℤ → List ℤ
rational n = n ∷ pos 0 ∷ pos 0 ∷ pos 0 ∷ pos 0 ∷ pos 0 ∷ pos 0 ∷ pos 0 ∷ []
