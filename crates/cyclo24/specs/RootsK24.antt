-- The square roots of 2, 3 and 6 in Q(sqrt 2, sqrt 3).
--
-- r2, r3, r6: their exact values; .._exact: their lists are in lowest terms
use Rattle.std.proofs.Common.{◌≡◌, refl, pos, [], ◌∷◌, true}
use Rattle.cyclo24.specs.Gcd.{gcd}
use Rattle.cyclo24.specs.Listed.{is_exact}
use Rattle.cyclo24.specs.ExactK24.{Exact24}

pub r2_exact : is_exact 4 (pos 0 ∷ pos 1 ∷ pos 0 ∷ pos 0 ∷ pos 1 ∷ []) ≡ true
unfolding gcd
r2_exact = refl

pub r3_exact : is_exact 4 (pos 0 ∷ pos 0 ∷ pos 1 ∷ pos 0 ∷ pos 1 ∷ []) ≡ true
unfolding gcd
r3_exact = refl

pub r6_exact : is_exact 4 (pos 0 ∷ pos 0 ∷ pos 0 ∷ pos 1 ∷ pos 1 ∷ []) ≡ true
unfolding gcd
r6_exact = refl

-- the square root of 2
abbrev pub r2 : Exact24
r2 = (pos 0 ∷ pos 1 ∷ pos 0 ∷ pos 0 ∷ pos 1 ∷ [], r2_exact)

-- the square root of 3
abbrev pub r3 : Exact24
r3 = (pos 0 ∷ pos 0 ∷ pos 1 ∷ pos 0 ∷ pos 1 ∷ [], r3_exact)

-- the square root of 6
abbrev pub r6 : Exact24
r6 = (pos 0 ∷ pos 0 ∷ pos 0 ∷ pos 1 ∷ pos 1 ∷ [], r6_exact)
