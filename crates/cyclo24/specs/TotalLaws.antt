-- What finite sums in a field obey.
--
-- sums-monoid: the sum of a field is that of a commutative monoid
-- total-same: equal terms; total-nought: zero terms; total-plus: sums of terms; total-times, times-total: multiples
-- total-swap: the order of two sums
use Rattle.std.proofs.Common.{◌≡◌, ℕ, suc, zero, ◌<◌, sym, ◌∙◌, ap}
use Rattle.algebra.specs.Sums.{IsCommutativeMonoid}
use Rattle.algebra.specs.SumLaws as sums
use Rattle.cyclo24.specs.FieldOn.{FieldOn}
use Rattle.cyclo24.specs.FieldLaws.{times-nought}
use Rattle.cyclo24.specs.Sums.{total}

module _ {K : Type 0} (f : FieldOn K) where
  pub sums-monoid : IsCommutativeMonoid f.nought f.plus
  sums-monoid = record { plus_comm = f.plus_comm; plus_assoc = f.plus_assoc; plus-nought = f.plus-nought }

  pub total-same : (n : ℕ) (g h : ℕ → K) → ((k : ℕ) → k < n → g k ≡ h k) → total f n g ≡ total f n h
  total-same = sums.total-same f.nought f.plus

  pub total-nought : (n : ℕ) → total f n (λ _. f.nought) ≡ f.nought
  total-nought = sums.total-nought f.nought f.plus sums-monoid

  pub total-plus : (n : ℕ) (g h : ℕ → K) → total f n (λ k. f.plus (g k) (h k)) ≡ f.plus (total f n g) (total f n h)
  total-plus = sums.total-plus f.nought f.plus sums-monoid

  pub total-times : (n : ℕ) (c : K) (g : ℕ → K) → total f n (λ k. f.times c (g k)) ≡ f.times c (total f n g)
  total-times zero c g = sym (times-nought f c)
  total-times (suc n) c g = ap (λ x. f.plus x (f.times c (g n))) (total-times n c g) ∙ sym (f.times-plus c (total f n g) (g n))

  pub times-total : (n : ℕ) (c : K) (g : ℕ → K) → total f n (λ k. f.times (g k) c) ≡ f.times (total f n g) c
  times-total n c g =
      total-same n (λ k. f.times (g k) c) (λ k. f.times c (g k)) (λ k l. f.times_comm (g k) c) ∙ total-times n c g ∙ f.times_comm c (total f n g)

  pub total-swap : (n m : ℕ) (g : ℕ → ℕ → K) → total f n (λ i. total f m (λ j. g i j)) ≡ total f m (λ j. total f n (λ i. g i j))
  total-swap = sums.total-swap f.nought f.plus sums-monoid
