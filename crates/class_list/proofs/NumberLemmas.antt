-- Numbers compared.
use Rattle.std.proofs.Common.{◌≡◌, ℕ, ◌+◌, ◌<◌, ◌⊎◌, arith}

-- one number is below the other, or they are equal
pub order_of : (j k : ℕ) → (j < k) ⊎ ((j ≡ k) ⊎ (k < j))
order_of j k = grind arith

-- what is below n + 1 is below n or n
pub last_or : (i n : ℕ) → i < n + 1 → (i < n) ⊎ (i ≡ n)
last_or i n l = grind arith
