-- What matrices of blocks obey.
--
-- blocks-multiply: where each column of blocks of the right factor has one, the blocks multiply
-- tested-multiply: the same of the matrices
use Rattle.std.proofs.Common.{◌≡◌, ℕ, ◌+◌, ◌*◌, ◌/◌, ◌%◌, ◌<◌, Bool, true, false, refl, sym, ◌∙◌, ap, arith, if◌then◌else◌}
use Rattle.cyclo24.specs.FieldOn.{FieldOn}
use Rattle.cyclo24.specs.FieldLaws.{times-nought, nought-times}
use Rattle.cyclo24.specs.Sums.{total}
use Rattle.cyclo24.specs.TotalLaws.{total-same}
use Rattle.cyclo24.specs.SumLaws.{all-nought, one-term, total-rows}
use Rattle.lin_alg.specs.Matrices.{mul}
use Rattle.lin_alg.specs.Blocks.{tested, tested_matrix}

module _ {K : Type 0} (f : FieldOn K) where
  -- a row of the left factor, by its test and that of the product
  by_tests : (s : ℕ) (b c : Bool) (u v : ℕ → K) (w : K) → c ≡ b → (b ≡ true → w ≡ total f s (λ z. f.times (u z) (v z)))
      → total f s (λ z. f.times (if b then u z else f.nought) (v z)) ≡ (if c then w else f.nought)
  by_tests s true c u v w e law = sym (law refl) ∙ sym (ap (λ t. if t then w else f.nought) e)
  by_tests s false c u v w e law = all-nought f s _ (λ z l. nought-times f (v z)) ∙ sym (ap (λ t. if t then w else f.nought) e)

  pub blocks-multiply : (n s : ℕ) (ta tb tab : ℕ → ℕ → Bool) (ga gb gab : ℕ → ℕ → ℕ → ℕ → K) (j x i y k : ℕ)
      → k < n → tb k i ≡ true → ((m : ℕ) → m < n → (m ≡ k → ⊥) → tb m i ≡ false) → tab j i ≡ ta j k
      → (ta j k ≡ true → gab j i x y ≡ total f s (λ z. f.times (ga j k x z) (gb k i z y)))
      → total f n (λ m. total f s (λ z. f.times (tested f ta ga j x m z) (tested f tb gb m z i y))) ≡ tested f tab gab j x i y
  blocks-multiply n s ta tb tab ga gb gab j x i y k l one other e law =
      one-term f n k (λ m. total f s (λ z. f.times (tested f ta ga j x m z) (tested f tb gb m z i y))) l
      (λ m b d. all-nought f s _ (λ z c. ap (λ t. f.times (tested f ta ga j x m z) (if t then gb m i z y else f.nought)) (other m b d) ∙ times-nought f (tested f ta ga j x m z)))
      ∙ total-same f s _ _ (λ z c. ap (λ t. f.times (tested f ta ga j x k z) (if t then gb k i z y else f.nought)) one)
      ∙ by_tests s (ta j k) (tab j i) (λ z. ga j k x z) (λ z. gb k i z y) (gab j i x y) e law

  row-of : (s k z : ℕ) → z < s → (k * s + z) / s ≡ k
  row-of s k z l = grind arith

  column-of : (s k z : ℕ) → z < s → (k * s + z) % s ≡ z
  column-of s k z l = grind arith

  pub tested-multiply : (n s : ℕ) (ta tb tab : ℕ → ℕ → Bool) (ga gb gab : ℕ → ℕ → ℕ → ℕ → K) (p q k : ℕ)
      → k < n → tb k (q / s) ≡ true → ((m : ℕ) → m < n → (m ≡ k → ⊥) → tb m (q / s) ≡ false) → tab (p / s) (q / s) ≡ ta (p / s) k
      → (ta (p / s) k ≡ true → gab (p / s) (q / s) (p % s) (q % s) ≡ total f s (λ z. f.times (ga (p / s) k (p % s) z) (gb k (q / s) z (q % s))))
      → mul f (n * s) (tested_matrix f s ta ga) (tested_matrix f s tb gb) p q ≡ tested_matrix f s tab gab p q
  tested-multiply n s ta tb tab ga gb gab p q k l one other e law =
      total-rows f n s (λ m. f.times (tested_matrix f s ta ga p m) (tested_matrix f s tb gb m q))
      ∙ total-same f n _ _ (λ m b. total-same f s _ _ (λ z c i.
      f.times (tested f ta ga (p / s) (p % s) (row-of s m z c i) (column-of s m z c i)) (tested f tb gb (row-of s m z c i) (column-of s m z c i) (q / s) (q % s))))
      ∙ blocks-multiply n s ta tb tab ga gb gab (p / s) (p % s) (q / s) (q % s) k l one other e law
