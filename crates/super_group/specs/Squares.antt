-- The squares of the elements of a quotient.
--
-- AreSquares s squares k: the numbers of the products of the first k elements with themselves
use Rattle.std.specs.Prelude.{◌≡◌, ℕ, ◌<◌, List, length, slice_index}
use Rattle.super_group.specs.Quotient.{SupercellGroup, quotient_group}

-- the numbers of the products of the first k elements with themselves
pub record AreSquares (s : SupercellGroup) (squares : List ℕ) (k : ℕ) : Type 0 where
  pub count : length squares ≡ k
  pub each : (q : ℕ) → q < k → slice_index squares q ≡ (quotient_group s).product q q
