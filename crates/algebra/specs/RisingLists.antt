-- Rising lists of all numbers with a property.
--
-- IsRisingListOf n P xs: xs lists the numbers below n with the property P, rising
-- IsRisingListOfTest n test xs: the same, for a test
use Rattle.std.specs.Prelude.{◌≡◌, ℕ, ◌<◌, Bool, true, List, length, slice_index}

-- the numbers below n with the property P, rising
pub record IsRisingListOf (n : ℕ) (P : ℕ → Type 0) (xs : List ℕ) : Type 0 where
  pub below : (i : ℕ) → i < length xs → slice_index xs i < n
  pub has : (i : ℕ) → i < length xs → P (slice_index xs i)
  pub rising : (i j : ℕ) → i < j → j < length xs → slice_index xs i < slice_index xs j
  pub every : (r : ℕ) → r < n → P r → (i : ℕ) × (i < length xs) × (slice_index xs i ≡ r)

-- the numbers below n of which the test holds, rising
abbrev pub IsRisingListOfTest : ℕ → (ℕ → Bool) → List ℕ → Type 0
IsRisingListOfTest n test = IsRisingListOf n (λ r. test r ≡ true)
