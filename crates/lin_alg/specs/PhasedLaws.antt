-- Products of matrices with factors.
--
-- scaled-product: (x a)(y b) = x y (a b), for a row and a column
-- multiples-product: the same of matrices
-- roots-product, phases-product: the factors are roots of order n, whose product is a root
use Rattle.std.proofs.Common.{◌≡◌, ℕ, ◌+◌, ◌%◌, refl, sym, ◌∙◌, ap}
use Rattle.cyclo24.specs.FieldOn.{FieldOn}
use Rattle.cyclo24.specs.Sums.{total}
use Rattle.cyclo24.specs.TotalLaws.{total-same, total-times}
use Rattle.lin_alg.specs.Matrices.{mul, multiple, AreEqualBelow}

module _ {K : Type 0} (f : FieldOn K) where
  -- (x a)(y b) = (x y)(a b)
  times-swap : (x a y b : K) → f.times (f.times x a) (f.times y b) ≡ f.times (f.times x y) (f.times a b)
  times-swap x a y b =
      f.times_assoc x a (f.times y b) ∙ ap (f.times x) (sym (f.times_assoc a y b) ∙ ap (λ w. f.times w b) (f.times_comm a y) ∙ f.times_assoc y a b)
      ∙ sym (f.times_assoc x y (f.times a b))

  pub scaled-product : (s : ℕ) (x y : K) (a b : ℕ → K) → total f s (λ z. f.times (f.times x (a z)) (f.times y (b z))) ≡ f.times (f.times x y) (total f s (λ z. f.times (a z) (b z)))
  scaled-product s x y a b = total-same f s _ _ (λ z l. times-swap x (a z) y (b z)) ∙ total-times f s (f.times x y) (λ z. f.times (a z) (b z))

  -- (x A)(y B) = x y (A B)
  pub multiples-product : (d : ℕ) (x y : K) (a b : ℕ → ℕ → K) (i j : ℕ) → mul f d (multiple f x a) (multiple f y b) i j ≡ multiple f (f.times x y) (mul f d a b) i j
  multiples-product d x y a b i j = scaled-product d x y (a i) (λ z. b z j)

  module _ (n : ℕ) (root : ℕ → K) (roots : (a b : ℕ) → f.times (root a) (root b) ≡ root ((a + b) % n)) where
    pub roots-product : (s u v c w : ℕ) (a b : ℕ → K) (x : K) → w ≡ ((u + v) % n + c) % n → total f s (λ z. f.times (a z) (b z)) ≡ f.times (root c) x
        → total f s (λ z. f.times (f.times (root u) (a z)) (f.times (root v) (b z))) ≡ f.times (root w) x
    roots-product s u v c w a b x e law =
        scaled-product s (root u) (root v) a b ∙ ap (f.times (f.times (root u) (root v))) law
        ∙ sym (f.times_assoc (f.times (root u) (root v)) (root c) x)
        ∙ ap (λ y. f.times y x) (ap (λ y. f.times y (root c)) (roots u v) ∙ roots ((u + v) % n) c ∙ ap root (sym e))

    -- where A B is a root times X, so is (root u A) (root v B)
    pub phases-product : (d u v c : ℕ) (a b x : ℕ → ℕ → K) → AreEqualBelow d (mul f d a b) (multiple f (root c) x)
        → AreEqualBelow d (mul f d (multiple f (root u) a) (multiple f (root v) b)) (multiple f (root (((u + v) % n + c) % n)) x)
    phases-product d u v c a b x law i j li lj = roots-product d u v c (((u + v) % n + c) % n) (a i) (λ z. b z j) (x i j) refl (law i j li lj)
