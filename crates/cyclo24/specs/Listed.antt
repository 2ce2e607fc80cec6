-- Fractions of numerators as lists of whole numbers: the numerators, then the denominator.
--
-- is_exact n x: the list x is n numerators and a denominator above 0 without a common divisor
-- numerators n x, denominator n x: the parts of such a list
-- exact_cmp n: the order by denominator, then numerators
use Rattle.std.specs.Prelude.{ℕ, suc, ℤ, pos, negsuc, List, length, take, get_or, Bool, false, ◌&&◌, nat_eq, nat_lt}
use Rattle.std.specs.Int.RustNames.{unsigned_abs}
use Rattle.std.specs.declared.cmp.Ordering.{Ordering}
use Rattle.std.specs.Ordering.{int_cmp, on, then_cmp}
use Rattle.std.specs.Cmp.Lexicographic.{slice_cmp}
use Rattle.cyclo24.specs.ExactField.{Exact}
use Rattle.cyclo24.specs.Gcd.{common}

-- the first n numbers
abbrev pub numerators : ℕ → List ℤ → List ℤ
numerators n x = take n x

-- the number after them
abbrev pub denominator : ℕ → List ℤ → ℤ
denominator n x = get_or x n (pos 0)

abbrev pub is_positive : ℤ → Bool
is_positive (pos n) = nat_lt 0 n
is_positive (negsuc n) = false

-- n numerators and a denominator above 0, in lowest terms
abbrev pub is_exact : ℕ → List ℤ → Bool
is_exact n x = nat_eq (length x) (suc n) && (is_positive (denominator n x) && nat_eq (common (numerators n x) (unsigned_abs (denominator n x))) 1)

-- by denominator, then by numerators
abbrev pub exact_cmp : (n : ℕ) → Exact (is_exact n) → Exact (is_exact n) → Ordering
exact_cmp n = then_cmp (on (λ x. denominator n x.0) int_cmp) (on (λ x. numerators n x.0) (slice_cmp int_cmp))
