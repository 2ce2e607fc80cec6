-- Sums in a field in pieces, with one term, and in another order.
--
-- where-own, where-is, where-other: x where two numbers are equal, else 0
-- all-nought, one-term: sums of zeros, and with one term that isn't zero
-- total-append, total-rows: sums in two pieces, and row by row
-- renumbered: a sum in another order
use Rattle.std.proofs.Common.{◌≡◌, ℕ, ◌+◌, ◌*◌, ◌<◌}
use Rattle.algebra.specs.Sums.{IsRenumbering}
use Rattle.algebra.specs.SumLaws as sums
use Rattle.cyclo24.specs.FieldOn.{FieldOn}
use Rattle.cyclo24.specs.Sums.{total, where_is}
use Rattle.cyclo24.specs.TotalLaws.{sums-monoid}

module _ {K : Type 0} (f : FieldOn K) where
  pub where-own : (i : ℕ) (x : K) → where_is f i i x ≡ x
  where-own = sums.where-own f.nought

  pub where-is : (i j : ℕ) (x : K) → i ≡ j → where_is f i j x ≡ x
  where-is = sums.where-is f.nought

  pub where-other : (i j : ℕ) (x : K) → (i ≡ j → ⊥) → where_is f i j x ≡ f.nought
  where-other = sums.where-other f.nought

  pub all-nought : (n : ℕ) (g : ℕ → K) → ((k : ℕ) → k < n → g k ≡ f.nought) → total f n g ≡ f.nought
  all-nought = sums.all-nought f.nought f.plus (sums-monoid f)

  pub one-term : (n k : ℕ) (g : ℕ → K) → k < n → ((j : ℕ) → j < n → (j ≡ k → ⊥) → g j ≡ f.nought) → total f n g ≡ g k
  one-term = sums.one-term f.nought f.plus (sums-monoid f)

  pub total-append : (a b : ℕ) (g : ℕ → K) → total f (a + b) g ≡ f.plus (total f a g) (total f b (λ k. g (a + k)))
  total-append = sums.total-append f.nought f.plus (sums-monoid f)

  pub total-rows : (n s : ℕ) (g : ℕ → K) → total f (n * s) g ≡ total f n (λ i. total f s (λ y. g (i * s + y)))
  total-rows = sums.total-rows f.nought f.plus (sums-monoid f)

  pub renumbered : (n : ℕ) (p r : ℕ → ℕ) → IsRenumbering n p r → (g : ℕ → K) → total f n (λ i. g (p i)) ≡ total f n g
  renumbered = sums.renumbered f.nought f.plus (sums-monoid f)
