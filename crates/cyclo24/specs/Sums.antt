-- Finite sums in a field.
--
-- total f n g: the sum of g k for the k below n
-- where_is f i j x: x where i is j, else 0
-- IsReal f: a sum of squares is zero only where each is
use Rattle.std.specs.Prelude.{◌≡◌, ℕ, ◌<◌}
use Rattle.algebra.specs.Sums as sums
use Rattle.cyclo24.specs.FieldOn.{FieldOn}

-- the sum of g k for the k below n, from left to right
abbrev pub total : {K : Type 0} → FieldOn K → ℕ → (ℕ → K) → K
total f n g = sums.total f.nought f.plus n g

-- x where i is j, else 0
abbrev pub where_is : {K : Type 0} → FieldOn K → ℕ → ℕ → K → K
where_is f i j x = sums.where_is f.nought i j x

-- a sum of squares is zero only where each is
abbrev pub IsReal : {K : Type 0} → FieldOn K → Type 0
IsReal {K} f = (n : ℕ) (g : ℕ → K) → total f n (λ k. f.times (g k) (g k)) ≡ f.nought → (k : ℕ) → k < n → g k ≡ f.nought
