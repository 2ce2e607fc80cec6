-- Four numerators over a denominator whose products, sums and inverses are computed in 64 bits.
--
-- short_of r: a fraction in 64 bits; wide_of r: one in 128 bits; four_of r, numerators r: its numerators
-- IsWithin4 n r: all five numbers are at most n in absolute value; AreWithin4 n a b: those of both
-- IsRational4 r: a rational number whose parts are at most 2^28 in absolute value
-- rational n: the numerators of a rational number
use Rattle.std.specs.Prelude.{◌≡◌, ℕ, ◌≤◌, ◌^◌, pos, ℤ, List, [], ◌∷◌}
use Rattle.std.specs.Int.RustNames.{unsigned_abs}
use Rattle.cyclo24.specs.declared.short4.Short4.{Short4}
use Rattle.cyclo24.specs.declared.fraction4.Fraction4.{Fraction4}
use Rattle.cyclo24.specs.Four.{Four}

-- the same numbers
abbrev pub short_of : Fraction4 → Short4
short_of r = record { d = record { n = r.d.n }; a0 = record { n = r.a0.n }; a1 = record { n = r.a1.n }; a2 = record { n = r.a2.n }; a3 = record { n = r.a3.n } }

abbrev pub wide_of : Short4 → Fraction4
wide_of r = record { d = record { n = r.d.n }; a0 = record { n = r.a0.n }; a1 = record { n = r.a1.n }; a2 = record { n = r.a2.n }; a3 = record { n = r.a3.n } }

abbrev pub four_of : Short4 → Four ℤ
four_of r = record { c0 = r.a0.n; c1 = r.a1.n; c2 = r.a2.n; c3 = r.a3.n }

abbrev pub numerators : Short4 → List ℤ
numerators r = r.a0.n ∷ r.a1.n ∷ r.a2.n ∷ r.a3.n ∷ []

-- all five numbers are at most n in absolute value
pub record IsWithin4 (n : ℕ) (r : Short4) : Type 0 where
  pub d : unsigned_abs r.d.n ≤ n
  pub a0 : unsigned_abs r.a0.n ≤ n
  pub a1 : unsigned_abs r.a1.n ≤ n
  pub a2 : unsigned_abs r.a2.n ≤ n
  pub a3 : unsigned_abs r.a3.n ≤ n

-- the numbers of both
pub record AreWithin4 (n : ℕ) (a b : Short4) : Type 0 where
  pub left : IsWithin4 n a
  pub right : IsWithin4 n b

-- a rational number whose parts are at most 2^28 in absolute value
pub record IsRational4 (r : Fraction4) : Type 0 where
  pub d : unsigned_abs r.d.n ≤ 2 ^ 28
  pub a0 : unsigned_abs r.a0.n ≤ 2 ^ 28
  pub a1 : r.a1.n ≡ pos 0
  pub a2 : r.a2.n ≡ pos 0
  pub a3 : r.a3.n ≡ pos 0

-- the numerators of a rational number
abbrev pub rational : ℤ → List ℤ
rational n = n ∷ pos 0 ∷ pos 0 ∷ pos 0 ∷ []
