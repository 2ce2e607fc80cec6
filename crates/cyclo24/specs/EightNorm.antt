-- The numbers c0 + c1 z + .. + c7 z^7 of whole coefficients as lists of eight whole numbers.
--
-- list8, member8: the eight in order, and back
-- eight: what makes fractions of them a field; eight_is: its laws
-- square8 x: four times the squared absolute value; squares_left, squares_right: a sum of two squares is 0 only where both are
-- no_parts: a number whose parts are 0 is 0
use Rattle.std.proofs.Common.{ℤ, pos, negsuc, List, [], ◌∷◌, get_or}
use Rattle.std.specs.Int.RustNames.{unsigned_abs}
use Rattle.algebra.specs.Ring.{Ops}
use Rattle.algebra.specs.Whole.{whole}
use Rattle.cyclo24.specs.Numerators.{Numerators}
use Rattle.cyclo24.specs.Four.{Four, norm4, adj4}
use Rattle.cyclo24.specs.Eight.{Eight, mul8, neg8, num8, eight_ops}
use Rattle.cyclo24.specs.EightParts.{conj8, re8, real8}

abbrev pub whole8 : Ops (Eight ℤ)
whole8 = eight_ops whole

-- the eight in order
abbrev pub list8 : Eight ℤ → List ℤ
list8 x = x.c0 ∷ x.c1 ∷ x.c2 ∷ x.c3 ∷ x.c4 ∷ x.c5 ∷ x.c6 ∷ x.c7 ∷ []

abbrev pub member8 : List ℤ → Eight ℤ
member8 xs = record {
  c0 = get_or xs 0 (pos 0);
  c1 = get_or xs 1 (pos 0);
  c2 = get_or xs 2 (pos 0);
  c3 = get_or xs 3 (pos 0);
  c4 = get_or xs 4 (pos 0);
  c5 = get_or xs 5 (pos 0);
  c6 = get_or xs 6 (pos 0);
  c7 = get_or xs 7 (pos 0);
}

-- x, or -x where the number is negative
abbrev pub by_sign8 : ℤ → Eight ℤ → Eight ℤ
by_sign8 (pos n) x = x
by_sign8 (negsuc n) x = neg8 whole x

-- four times the squared absolute value
unfoldable pub square8 : Eight ℤ → Four ℤ
square8 x = re8 whole (mul8 whole x (conj8 whole x))

-- x times this is a whole number
unfoldable pub adj8 : Eight ℤ → Eight ℤ
adj8 x = mul8 whole (num8 whole (pos 4)) (mul8 whole (conj8 whole x) (real8 whole (adj4 whole (square8 x))))

unfoldable pub norm8 : Eight ℤ → ℤ
norm8 x = norm4 whole (square8 x)

abbrev pub eight : Numerators whole8
eight = record { count = 8; list = list8; member = member8; cofactor = λ x. by_sign8 (norm8 x) (adj8 x); size = λ x. unsigned_abs (norm8 x) }

abbrev pub zero8 : Eight ℤ
zero8 = num8 whole (pos 0)
