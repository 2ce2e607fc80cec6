-- What finite sums in a commutative monoid obey.
--
-- decide, below: numbers are equal or not, and one is below the other or not
-- where-own, where-is, where-other: x where two numbers are equal, else the neutral element
-- total-same: equal terms; total-nought, all-nought: zero terms; total-plus: sums of terms
-- one-term: a sum with one term that isn't zero
-- total-swap: the order of two sums
-- total-append, total-rows: sums in two pieces, and row by row
-- renumbered: a sum in another order
use Rattle.std.proofs.Common.{◌≡◌, ℕ, suc, zero, ◌+◌, ◌*◌, ◌<◌, ◌≤◌, ◌⊎◌, inl, inr, true, false, refl, sym, ◌∙◌, ap, subst, arith, nat_eq, if◌then◌else◌}
use Rattle.std.proofs.lemmas.Bool.Decides.{eqb_tells}
use Rattle.algebra.specs.Sums.{IsCommutativeMonoid, IsRenumbering, total, where_is}

pub decide : (k n : ℕ) → (k ≡ n) ⊎ (k ≡ n → ⊥)
decide k n = elim (eqb_tells k n) [ inl h ↦ inl h.1 | inr h ↦ inr h.1 ]

pub below : (k n : ℕ) → (k < n) ⊎ (n ≤ k)
below k n = grind arith

eq-self : (n : ℕ) → nat_eq n n ≡ true
eq-self n = grind (arith)

eq-other : (k p : ℕ) → (k ≡ p → ⊥) → nat_eq k p ≡ false
eq-other k p n = elim (eqb_tells k p) [ inl h ↦ absurd (n h.1) | inr h ↦ h.0 ]

module _ {A : Type 0} (nought : A) where
  pub where-own : (i : ℕ) (x : A) → where_is nought i i x ≡ x
  where-own i x = ap (λ b. if b then x else nought) (eq-self i)

  pub where-is : (i j : ℕ) (x : A) → i ≡ j → where_is nought i j x ≡ x
  where-is i j x e = subst (λ (z : ℕ). where_is nought i z x ≡ x) e (where-own i x)

  pub where-other : (i j : ℕ) (x : A) → (i ≡ j → ⊥) → where_is nought i j x ≡ nought
  where-other i j x n = ap (λ b. if b then x else nought) (eq-other i j n)

  -- equal terms, by any operation
  pub total-same : (plus : A → A → A) (n : ℕ) (g h : ℕ → A) → ((k : ℕ) → k < n → g k ≡ h k) → total nought plus n g ≡ total nought plus n h
  total-same plus zero g h e = refl
  total-same plus (suc n) g h e =
      let t : total nought plus n g ≡ total nought plus n h = total-same plus n g h (λ k l. e k (omega arith)) in
      let l : g n ≡ h n = e n (omega arith) in
      ap (λ x. plus x (g n)) t ∙ ap (plus (total nought plus n h)) l

module _ {A : Type 0} (nought : A) (plus : A → A → A) (m : IsCommutativeMonoid nought plus) where
  nought-plus : (x : A) → plus nought x ≡ x
  nought-plus x = m.plus_comm nought x ∙ m.plus-nought x

  -- (a + b) + (c + d) = (a + c) + (b + d)
  pub plus-swap : (a b c d : A) → plus (plus a b) (plus c d) ≡ plus (plus a c) (plus b d)
  plus-swap a b c d =
      m.plus_assoc a b (plus c d) ∙ ap (plus a) (sym (m.plus_assoc b c d) ∙ ap (λ w. plus w d) (m.plus_comm b c) ∙ m.plus_assoc c b d)
      ∙ sym (m.plus_assoc a c (plus b d))

  pub total-nought : (n : ℕ) → total nought plus n (λ _. nought) ≡ nought
  total-nought zero = refl
  total-nought (suc n) = m.plus-nought (total nought plus n (λ _. nought)) ∙ total-nought n

  pub total-plus : (n : ℕ) (g h : ℕ → A) → total nought plus n (λ k. plus (g k) (h k)) ≡ plus (total nought plus n g) (total nought plus n h)
  total-plus zero g h = sym (m.plus-nought nought)
  total-plus (suc n) g h =
      ap (λ x. plus x (plus (g n) (h n))) (total-plus n g h) ∙ plus-swap (total nought plus n g) (total nought plus n h) (g n) (h n)

  pub total-swap : (n o : ℕ) (g : ℕ → ℕ → A) → total nought plus n (λ i. total nought plus o (λ j. g i j)) ≡ total nought plus o (λ j. total nought plus n (λ i. g i j))
  total-swap zero o g = sym (total-nought o)
  total-swap (suc n) o g =
      ap (λ x. plus x (total nought plus o (λ j. g n j))) (total-swap n o g) ∙ sym (total-plus o (λ j. total nought plus n (λ i. g i j)) (λ j. g n j))

  pub all-nought : (n : ℕ) (g : ℕ → A) → ((k : ℕ) → k < n → g k ≡ nought) → total nought plus n g ≡ nought
  all-nought n g h = total-same nought plus n g (λ _. nought) h ∙ total-nought n

  -- a sum with one term that isn't zero
  pub one-term : (n k : ℕ) (g : ℕ → A) → k < n → ((j : ℕ) → j < n → (j ≡ k → ⊥) → g j ≡ nought) → total nought plus n g ≡ g k
  one-term zero k g l h = absurd (omega arith)
  one-term (suc n) k g l h =
      elim (below k n) [
        | inl b ↦
            let e : g n ≡ nought = h n (omega arith) (λ p. let q : n ≡ k = p in absurd (omega arith)) in
            let t : total nought plus n g ≡ g k = one-term n k g b (λ j l d. h j (omega arith) d) in
            ap (λ x. plus x (g n)) t ∙ ap (plus (g k)) e ∙ m.plus-nought (g k)
        | inr b ↦
            let e : n ≡ k = omega arith in
            let t : total nought plus n g ≡ nought = all-nought n g (λ j l. h j (omega arith) (λ p. let q : j ≡ k = p in absurd (omega arith))) in
            ap (λ x. plus x (g n)) t ∙ nought-plus (g n) ∙ ap g e
      ]

  pub total-append : (a b : ℕ) (g : ℕ → A) → total nought plus (a + b) g ≡ plus (total nought plus a g) (total nought plus b (λ k. g (a + k)))
  total-append a zero g = let e : a + 0 ≡ a = omega arith in ap (λ n. total nought plus n g) e ∙ sym (m.plus-nought (total nought plus a g))
  total-append a (suc b) g =
      let e : a + suc b ≡ suc (a + b) = omega arith in
      ap (λ n. total nought plus n g) e ∙ ap (λ x. plus x (g (a + b))) (total-append a b g)
      ∙ m.plus_assoc (total nought plus a g) (total nought plus b (λ k. g (a + k))) (g (a + b))

  -- rows of s, one after the other
  pub total-rows : (n s : ℕ) (g : ℕ → A) → total nought plus (n * s) g ≡ total nought plus n (λ i. total nought plus s (λ y. g (i * s + y)))
  total-rows zero s g = let e : zero * s ≡ 0 = omega arith in ap (λ n. total nought plus n g) e
  total-rows (suc n) s g =
      let e : suc n * s ≡ n * s + s = omega arith in
      ap (λ n. total nought plus n g) e ∙ total-append (n * s) s g ∙ ap (λ x. plus x (total nought plus s (λ y. g (n * s + y)))) (total-rows n s g)

  -- a sum in another order
  pub renumbered : (n : ℕ) (p r : ℕ → ℕ) → IsRenumbering n p r → (g : ℕ → A) → total nought plus n (λ i. g (p i)) ≡ total nought plus n g
  renumbered n p r h g =
      total-same nought plus n (λ i. g (p i)) (λ i. total nought plus n (λ j. where_is nought j (p i) (g j)))
      (λ i l. sym (one-term n (p i) (λ j. where_is nought j (p i) (g j)) (h.below i l) (λ j k d. where-other nought j (p i) (g j) d) ∙ where-own nought (p i) (g (p i))))
      ∙ total-swap n n (λ i j. where_is nought j (p i) (g j))
      ∙ total-same nought plus n (λ j. total nought plus n (λ i. where_is nought j (p i) (g j))) g
      (λ j l. one-term n (r j) (λ i. where_is nought j (p i) (g j)) (h.back-below j l)
      (λ i k d. where-other nought j (p i) (g j) (λ e. d (sym (h.back i k) ∙ ap r (sym e))))
      ∙ where-is nought j (p (r j)) (g j) (sym (h.forth j l)))
