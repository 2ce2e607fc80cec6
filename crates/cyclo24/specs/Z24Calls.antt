-- What the calls on values of the 24th cyclotomic field give.
--
-- product_z24, sum_z24, conj_z24, real_z24, imag_z24, from_real_z24: what is reduced is the exact result
-- .._ready: what is answered can be reduced
-- negated_z24, small, zero_z24, one_z24, is_zero_z24: the other operations
use Rattle.std.proofs.Common.{◌≡◌, ◌/◌, ℕ, pos, true}
use Rattle.std.specs.Int.RustNames.{unsigned_abs}
use Rattle.cyclo24.specs.declared.fraction4.Fraction4.{Fraction4}
use Rattle.cyclo24.specs.declared.fraction8.Fraction8.{Fraction8}
use Rattle.cyclo24.specs.Gcd.{gcd}
use Rattle.cyclo24.specs.Listed.{is_exact}
use Rattle.cyclo24.specs.Written4.{numbers4}
use Rattle.cyclo24.specs.Written8.{numbers8, num}
use Rattle.cyclo24.specs.ExactK24.{Exact24}
use Rattle.cyclo24.specs.ExactZ24.{ExactZ24}

-- in lowest terms over a denominator above 0
abbrev pub IsLow8 : Fraction8 → Type 0
IsLow8 r = is_exact 8 (numbers8 r) ≡ true

abbrev pub IsLow4 : Fraction4 → Type 0
IsLow4 r = is_exact 4 (numbers4 r) ≡ true

-- the exact value of a fraction in lowest terms
abbrev pub exact_of8 : (r : Fraction8) → IsLow8 r → ExactZ24
exact_of8 r h = (numbers8 r, h)

abbrev pub exact_of4 : (r : Fraction4) → IsLow4 r → Exact24
exact_of4 r h = (numbers4 r, h)

-- products

-- sums

-- the quotients of the denominators by their greatest common divisor
abbrev pub over_gcd : Fraction8 → Fraction8 → Fraction8 → ℕ
over_gcd c a b = unsigned_abs c.d.n / gcd (unsigned_abs a.d.n) (unsigned_abs b.d.n)

-- negatives, 0 and 1

abbrev pub small : ℕ → Fraction8
small n = record { d = num (pos 1); c0 = num (pos n); c1 = num (pos 0); c2 = num (pos 0); c3 = num (pos 0); c4 = num (pos 0); c5 = num (pos 0); c6 = num (pos 0); c7 = num (pos 0) }

-- conjugates

-- parts

-- real numbers
