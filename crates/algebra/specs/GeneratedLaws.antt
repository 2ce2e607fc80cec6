-- Words over the generators of a numbered group.
--
-- word-below: the element of a word is below the order
-- identity-word, generator-word, product-word: words for 0, for a generator, for a product of words
-- power g a k: the product of k factors a
-- power-back: some power of a, of at least one factor, is 0
-- inverse-word: a word for the inverse of a word
-- words-generate: where each element has a word, the generators generate
-- generated-holds: what holds of 0 and is kept by products with generators on the left holds of each element
-- generated-test: the same for a test
use Rattle.std.proofs.Common.{◌≡◌, Bool, true, refl, sym, ◌∙◌, ap, subst, ℕ, zero, suc, ◌<◌, ◌≤◌, ◌+◌, ◌⊎◌, inl, inr, ⊎_elim, List, [], ◌∷◌, ◌++◌, arith}
use Rattle.std.proofs.lemmas.Bool.{cases_lt}
use Rattle.std.proofs.Math.Logic.{∥∥₁_elim}
use mathlib.Core.Bool.{Bool-set}
use Rattle.algebra.specs.NumberedGroup.{Group, IsGroup, word, AllBelow, HasWord, IsGenerated}
use Rattle.algebra.specs.NumberedGroupLaws.{product-inverse, product-identity, cancel}
use Rattle.algebra.specs.PigeonholeLaws.{pigeonhole}

-- the product of k factors a
abbrev pub power : Group → ℕ → ℕ → ℕ
power g a zero = 0
power g a (suc k) = g.product a (power g a k)

-- the first number below n that f takes to 0, or none
search_below : (f : ℕ → ℕ) (n : ℕ) → ((k : ℕ) × (k < n) × (f k ≡ 0)) ⊎ ((k : ℕ) → k < n → f k ≡ 0 → ⊥)
search_below f zero = inr (λ k l e. absurd (omega arith))
search_below f (suc n) = by_before (search_below f n) where
  by_last : ((k : ℕ) → k < n → f k ≡ 0 → ⊥) → (m : ℕ) → m ≡ f n → ((k : ℕ) × (k < suc n) × (f k ≡ 0)) ⊎ ((k : ℕ) → k < suc n → f k ≡ 0 → ⊥)
  by_last h zero e = inl (n, omega arith, sym e)
  by_last h (suc m) e = inr (λ k l d. ⊎_elim (λ b. h k b d) (λ b. let i : k ≡ n = omega arith in let z : f n ≡ 0 = subst (λ j. f j ≡ 0) i d in omega (arith, z, e)) (cases_lt k n))

  by_before : ((k : ℕ) × (k < n) × (f k ≡ 0)) ⊎ ((k : ℕ) → k < n → f k ≡ 0 → ⊥) → ((k : ℕ) × (k < suc n) × (f k ≡ 0)) ⊎ ((k : ℕ) → k < suc n → f k ≡ 0 → ⊥)
  by_before (inl (k, l, e)) = inl (k, omega arith, e)
  by_before (inr h) = by_last h (f n) refl

module _ (g : Group) (law : IsGroup g) where
  power-below : (a k : ℕ) → a < g.order → power g a k < g.order
  power-below a zero l = law.identity_below
  power-below a (suc k) l = law.product_below a (power g a k) l (power-below a k l)

  power-add : (a i j : ℕ) → a < g.order → power g a (i + j) ≡ g.product (power g a i) (power g a j)
  power-add a zero j l =
      let e : 0 + j ≡ j = omega arith in
      ap (power g a) e ∙ sym (law.identity-product (power g a j) (power-below a j l))
  power-add a (suc i) j l =
      let e : suc i + j ≡ suc (i + j) = omega arith in
      ap (power g a) e ∙ ap (g.product a) (power-add a i j l)
      ∙ sym (law.product_assoc a (power g a i) (power g a j) l (power-below a i l) (power-below a j l))

  -- two powers that are equal are apart by a power that is 0
  power-apart : (a i k : ℕ) → a < g.order → power g a i ≡ power g a (i + k) → power g a k ≡ 0
  power-apart a i k l e =
      let m = power-below a i l in
      cancel g law (power g a i) (power g a k) 0 m (power-below a k l) law.identity_below
      (sym (power-add a i k l) ∙ sym e ∙ sym (product-identity g law (power g a i) m))

  no_power : (a : ℕ) → a < g.order → ((k : ℕ) → k < g.order → power g a (suc k) ≡ 0 → ⊥) → (i j : ℕ) → i < j → j < suc g.order → power g a i ≡ power g a j → ⊥
  no_power a l h zero zero m n e = omega arith
  no_power a l h (suc i) zero m n e = omega arith
  no_power a l h i (suc j) m n e =
      let k : (d : ℕ) × (suc j ≡ i + suc d) × (d < g.order) = between i j m n in
      h k.0 k.2 (power-apart a i (suc k.0) l (e ∙ ap (power g a) k.1))
    where
      between : (i j : ℕ) → i < suc j → suc j < suc g.order → (d : ℕ) × (suc j ≡ i + suc d) × (d < g.order)
      between zero j m n = (j, omega arith, omega arith)
      between (suc i) zero m n = absurd (omega arith)
      between (suc i) (suc j) m n = let b = between i j (omega arith) (omega arith) in let e : suc j ≡ i + suc b.0 = b.1 in (b.0, omega arith, b.2)

  pub power-back : (a : ℕ) → a < g.order → (k : ℕ) × (k < g.order) × (power g a (suc k) ≡ 0)
  power-back a l = by_search (search_below (λ k. power g a (suc k)) g.order) where
    by_search : ((k : ℕ) × (k < g.order) × (power g a (suc k) ≡ 0)) ⊎ ((k : ℕ) → k < g.order → power g a (suc k) ≡ 0 → ⊥) → (k : ℕ) × (k < g.order) × (power g a (suc k) ≡ 0)
    by_search (inl w) = w
    by_search (inr h) =
        let few : suc g.order ≤ g.order =
        pigeonhole (suc g.order) g.order (λ i _. power g a i) (λ i _. power-below a i l)
        (λ i j m n e. ⊎_elim (λ b. absurd (no_power a l h i j b n e)) (λ b. ⊎_elim (λ c. absurd (no_power a l h j i c m (sym e))) (λ c. omega arith) (cases_lt j i)) (cases_lt i j)) in
        absurd (omega arith)

module _ (g : Group) (law : IsGroup g) (n : ℕ) (generator : ℕ → ℕ) (below : (i : ℕ) → i < n → generator i < g.order) where
  pub word-below : (is : List ℕ) → AllBelow n is → word g.product generator is < g.order
  word-below [] h = law.identity_below
  word-below (i ∷ is) h = law.product_below (generator i) (word g.product generator is) (below i h.0) (word-below is h.1)

  append_below : (is js : List ℕ) → AllBelow n is → AllBelow n js → AllBelow n (is ++ js)
  append_below [] js h k = k
  append_below (i ∷ is) js h k = (h.0, append_below is js h.1 k)

  word-append : (is js : List ℕ) → AllBelow n is → AllBelow n js → word g.product generator (is ++ js) ≡ g.product (word g.product generator is) (word g.product generator js)
  word-append [] js h k = sym (law.identity-product (word g.product generator js) (word-below js k))
  word-append (i ∷ is) js h k =
      ap (g.product (generator i)) (word-append is js h.1 k)
      ∙ sym (law.product_assoc (generator i) (word g.product generator is) (word g.product generator js) (below i h.0) (word-below is h.1) (word-below js k))

  pub identity-word : HasWord g n generator 0
  identity-word = ([], tt, refl)

  pub generator-word : (i : ℕ) → i < n → HasWord g n generator (generator i)
  generator-word i l = (i ∷ [], (l, tt), sym (product-identity g law (generator i) (below i l)))

  pub product-word : (a b : ℕ) → HasWord g n generator a → HasWord g n generator b → HasWord g n generator (g.product a b)
  product-word a b v w = (v.0 ++ w.0, append_below v.0 w.0 v.1 w.1, (λ t. g.product (v.2 t) (w.2 t)) ∙ sym (word-append v.0 w.0 v.1 w.1))

  power-word : (a k : ℕ) → HasWord g n generator a → HasWord g n generator (power g a k)
  power-word a zero w = identity-word
  power-word a (suc k) w = product-word a (power g a k) w (power-word a k w)

  -- the inverse of a is a power of a
  pub inverse-word : (a : ℕ) → a < g.order → HasWord g n generator a → HasWord g n generator (g.inverse a)
  inverse-word a l w =
      let p = power-back g law a l in
      let e : power g a p.0 ≡ g.inverse a =
      cancel g law a (power g a p.0) (g.inverse a) l (power-below g law a p.0 l) (law.inverse_below a l) (p.2 ∙ sym (product-inverse g law a l)) in
      subst (HasWord g n generator) e (power-word a p.0 w)

  pub words-generate : ((a : ℕ) → a < g.order → HasWord g n generator a) → IsGenerated g n generator
  words-generate f a l = ∣ f a l ∣₁

  -- what holds of 0 and is kept by products with generators on the left holds of each word
  word-holds : (P : ℕ → Type 0) → P 0 → ((i a : ℕ) → i < n → a < g.order → P a → P (g.product (generator i) a)) → (is : List ℕ) → AllBelow n is → P (word g.product generator is)
  word-holds P none more [] h = none
  word-holds P none more (i ∷ is) h = more i (word g.product generator is) h.0 (word-below is h.1) (word-holds P none more is h.1)

  -- and so of each element of what the generators generate, for every property of one proof
  pub generated-holds : IsGenerated g n generator → (P : ℕ → Type 0) → ((a : ℕ) → a < g.order → IsProp (P a)) → P 0
      → ((i a : ℕ) → i < n → a < g.order → P a → P (g.product (generator i) a)) → (a : ℕ) → a < g.order → P a
  generated-holds generated P prop none more a l =
      ∥∥₁_elim (generated a l) (prop a l) (λ w. subst P (sym w.2) (word-holds P none more w.0 w.1))

  pub generated-test : IsGenerated g n generator → (test : ℕ → Bool) → test 0 ≡ true
      → ((i a : ℕ) → i < n → a < g.order → test a ≡ true → test (g.product (generator i) a) ≡ true) → (a : ℕ) → a < g.order → test a ≡ true
  generated-test generated test = generated-holds generated (λ a. test a ≡ true) (λ a l. Bool-set (test a) true)
