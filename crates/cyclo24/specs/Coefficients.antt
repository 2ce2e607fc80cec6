-- Values by the numbers of their lists.
--
-- in_roots x: a0 + a1 r2 + a2 r3 + a3 r6 for the numerators of x
-- in_powers x: the sum of c_j z^j for the numerators of x
-- reduced4 r, reduced8 r: the list of a fraction in lowest terms
use Rattle.std.specs.Prelude.{ℕ, ℤ, pos, List, get_or}
use Rattle.std.specs.Int.RustNames.{unsigned_abs}
use Rattle.cyclo24.specs.declared.fraction4.Fraction4.{Fraction4}
use Rattle.cyclo24.specs.declared.fraction8.Fraction8.{Fraction8}
use Rattle.cyclo24.specs.Gcd.{lowest_terms}
use Rattle.cyclo24.specs.Numerals.{of_whole}
use Rattle.cyclo24.specs.Sums.{total}
use Rattle.cyclo24.specs.Written4.{numerators4}
use Rattle.cyclo24.specs.Written8.{numerators8}
use Rattle.cyclo24.specs.ExactK24.{Exact24, k24_laws}
use Rattle.cyclo24.specs.ExactZ24.{ExactZ24, z24_laws, power}
use Rattle.cyclo24.specs.RootsK24.{r2, r3, r6}

-- numerator i as a number of the field
abbrev pub numerator24 : Exact24 → ℕ → Exact24
numerator24 x i = of_whole k24_laws (get_or x.0 i (pos 0))

-- a0 + a1 r2 + a2 r3 + a3 r6
abbrev pub in_roots : Exact24 → Exact24
in_roots x = k24_laws.plus (k24_laws.plus (k24_laws.plus (numerator24 x 0) (k24_laws.times (numerator24 x 1) r2)) (k24_laws.times (numerator24 x 2) r3)) (k24_laws.times (numerator24 x 3) r6)

-- c0 + c1 z + .. + c7 z^7
abbrev pub in_powers : ExactZ24 → ExactZ24
in_powers x = total z24_laws 8 (λ j. z24_laws.times (of_whole z24_laws (get_or x.0 j (pos 0))) (power j))

-- a fraction in lowest terms
abbrev pub reduced4 : Fraction4 → List ℤ
reduced4 r = lowest_terms (numerators4 r) (unsigned_abs r.d.n)

abbrev pub reduced8 : Fraction8 → List ℤ
reduced8 r = lowest_terms (numerators8 r) (unsigned_abs r.d.n)
