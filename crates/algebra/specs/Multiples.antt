-- Whole multiples, and remainders from 0 on.
--
-- IsMultiple n x: x is n times a whole number
-- IsRemainder n x r: r is from 0 up to but without n, and differs from x by a multiple of n
-- AreMultiplesIdeal n: the multiples of n are an ideal
use Rattle.std.specs.Prelude.{◌≡◌, ℕ, ℤ, pos, ◌+ℤ◌, ◌*ℤ◌, neg_ℤ, ◌≤ℤ◌, ◌<ℤ◌}

-- x is n times a whole number
pub record IsMultiple (n : ℕ) (x : ℤ) : Type 0 where
  pub quotient : ℤ
  pub is : x ≡ pos n *ℤ quotient

-- from 0 up to but without n
abbrev pub IsWithinModulus : ℕ → ℤ → Type 0
IsWithinModulus n r = (pos 0 ≤ℤ r) × (r <ℤ pos n)

-- r is the remainder of x by n
pub record IsRemainder (n : ℕ) (x r : ℤ) : Type 0 where
  pub within : IsWithinModulus n r
  pub differs : IsMultiple n (r +ℤ neg_ℤ x)

-- the multiples of n are an ideal: 0, sums, opposites and multiples are among them
pub record AreMultiplesIdeal (n : ℕ) : Type 0 where
  pub zero : IsMultiple n (pos 0)
  pub sum : (x y : ℤ) → IsMultiple n x → IsMultiple n y → IsMultiple n (x +ℤ y)
  pub minus : (x : ℤ) → IsMultiple n x → IsMultiple n (neg_ℤ x)
  pub times : (a x : ℤ) → IsMultiple n x → IsMultiple n (a *ℤ x)
