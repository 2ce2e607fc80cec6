-- Greatest common divisors.
--
-- gcd a b: the greatest common divisor, by Euclid's algorithm
-- common xs d: the greatest number that divides each of xs and d
-- quotient z g: the whole number z over g, cut towards 0
-- lowest_terms xs d: the numerators xs over d in lowest terms, then the denominator
-- all_zero xs: each of xs is 0
use Rattle.std.specs.Prelude.{ℕ, zero, suc, ◌%◌, ◌/◌, ℤ, pos, negsuc, neg_ℤ, List, [], ◌∷◌, ◌++◌, map, Bool}
use Rattle.std.specs.Ordering.{int_eq}
use Rattle.std.specs.List.{list_all}
use Rattle.std.specs.Int.RustNames.{unsigned_abs}

abbrev pub gcd_steps : ℕ → ℕ → ℕ → ℕ
gcd_steps zero a b = a
gcd_steps (suc k) a zero = a
gcd_steps (suc k) a (suc b) = gcd_steps k (suc b) (a % suc b)

-- Euclid's
unfoldable pub gcd : ℕ → ℕ → ℕ
gcd a b = gcd_steps (suc b) a b

-- of a list of whole numbers and a number
abbrev pub common : List ℤ → ℕ → ℕ
common [] d = d
common (z ∷ zs) d = gcd (unsigned_abs z) (common zs d)

-- z over g
abbrev pub quotient : ℤ → ℕ → ℤ
quotient (pos n) g = pos (n / g)
quotient (negsuc n) g = neg_ℤ (pos (suc n / g))

-- the numerators xs over d, without a common divisor, and the denominator
abbrev pub lowest_terms : List ℤ → ℕ → List ℤ
lowest_terms xs d = let g = common xs d in map (λ z. quotient z g) xs ++ pos (d / g) ∷ []

-- each is 0
abbrev pub all_zero : List ℤ → Bool
all_zero xs = list_all (λ z. int_eq z (pos 0)) xs
