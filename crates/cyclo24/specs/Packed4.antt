-- Four numerators over a denominator, packed in 32 bits.
--
-- unpacked r, widened r: the same number in 64 and in 128 bits
-- IsPacked4 r: all five numbers are below 2^28 in absolute value
-- IsLowestOf r s: r is s in lowest terms
-- one: the factor 1 of a sum
use Rattle.std.specs.Prelude.{◌≡◌, ◌<◌, ◌^◌, pos}
use Rattle.std.specs.Int.RustNames.{unsigned_abs}
use Rattle.cyclo24.specs.declared.whole.Whole.{Whole}
use Rattle.cyclo24.specs.declared.packed4.Packed4.{Packed4}
use Rattle.cyclo24.specs.declared.short4.Short4.{Short4}
use Rattle.cyclo24.specs.declared.fraction4.Fraction4.{Fraction4}
use Rattle.cyclo24.specs.Gcd.{lowest_terms}
use Rattle.cyclo24.specs.Written4.{numbers4, numerators4}

-- the same number in 64 bits
abbrev pub unpacked : Packed4 → Short4
unpacked r = record { d = record { n = r.d.n }; a0 = record { n = r.a0.n }; a1 = record { n = r.a1.n }; a2 = record { n = r.a2.n }; a3 = record { n = r.a3.n } }

-- and in 128
abbrev pub widened : Packed4 → Fraction4
widened r = record { d = record { n = r.d.n }; a0 = record { n = r.a0.n }; a1 = record { n = r.a1.n }; a2 = record { n = r.a2.n }; a3 = record { n = r.a3.n } }

-- all five numbers are below 2^28 in absolute value
pub record IsPacked4 (r : Packed4) : Type 0 where
  pub d : unsigned_abs r.d.n < 2 ^ 28
  pub a0 : unsigned_abs r.a0.n < 2 ^ 28
  pub a1 : unsigned_abs r.a1.n < 2 ^ 28
  pub a2 : unsigned_abs r.a2.n < 2 ^ 28
  pub a3 : unsigned_abs r.a3.n < 2 ^ 28

-- r is s in lowest terms
abbrev pub IsLowestOf : Fraction4 → Fraction4 → Type 0
IsLowestOf r s = numbers4 r ≡ lowest_terms (numerators4 s) (unsigned_abs s.d.n)

-- the factor 1 of a sum
abbrev pub one : Whole
one = record { n = pos 1 }
