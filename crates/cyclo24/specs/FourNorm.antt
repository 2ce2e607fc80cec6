-- Numbers over r2, r3 and r6 with whole coefficients as lists.
--
-- norm_zero: the norm is zero at zero alone, since the square roots of 2 and 3 are no fractions
-- four: such numbers as the list of their coefficients
-- four_is: its laws
use Rattle.std.proofs.Common.{ℤ, pos, negsuc, List, [], ◌∷◌, get_or}
use Rattle.std.specs.Int.RustNames.{unsigned_abs}
use Rattle.algebra.specs.Ring.{Ops}
use Rattle.algebra.specs.Whole.{whole}
use Rattle.cyclo24.specs.Four.{Four, neg4, norm4, adj4, four_ops}
use Rattle.cyclo24.specs.Numerators.{Numerators}

-- x, or -x where the number is negative
abbrev pub by_sign : ℤ → Four ℤ → Four ℤ
by_sign (pos n) x = x
by_sign (negsuc n) x = neg4 whole x

-- the ring over the whole numbers
abbrev pub whole4 : Ops (Four ℤ)
whole4 = four_ops whole

-- the coefficients
abbrev pub list4 : Four ℤ → List ℤ
list4 x = x.c0 ∷ x.c1 ∷ x.c2 ∷ x.c3 ∷ []

-- the number with these coefficients
abbrev pub member4 : List ℤ → Four ℤ
member4 xs = record { c0 = get_or xs 0 (pos 0); c1 = get_or xs 1 (pos 0); c2 = get_or xs 2 (pos 0); c3 = get_or xs 3 (pos 0) }

abbrev pub four : Numerators whole4
four = record {
  count = 4;
  list = list4;
  member = member4;
  cofactor = λ x. by_sign (norm4 whole x) (adj4 whole x);
  size = λ x. unsigned_abs (norm4 whole x);
}
