-- What the parts of the code of averages obey.
--
-- with-own, with-other: the entries of a matrix with one entry changed
-- row-start, row-next, row-same: a row is added entry by entry; element-start, element-next: an element row by row
-- part-start, part-next, part-end: an average is added element by element
-- by-places: what holds at each place row by row holds at each row and column
use Rattle.std.proofs.Common.{◌≡◌, ℕ, ◌+◌, ◌*◌, ◌/◌, ◌%◌, ◌<◌, ◌≤◌, ◌⊎◌, inl, inr, ◌&&◌, true, refl, sym, ◌∙◌, ap, subst, arith, nat_eq, if◌then◌else◌, add-one, below_more}
use Rattle.std.proofs.lemmas.Bool.Decides.{eqb_tells}
use Rattle.std.proofs.lemmas.Nat.{div-mul-add, mod-mul-add}
use Rattle.cyclo24.specs.FieldOn.{FieldOn}
use Rattle.cyclo24.specs.FieldLaws.{nought-times}
use Rattle.cyclo24.specs.Sums.{total}
use Rattle.lin_alg.specs.EquationLaws.{dec}
use Rattle.lin_alg.specs.Matrix.{with_entry}
use Rattle.couple.specs.Links.{Pair, IsZero, average}
use Rattle.couple.specs.LinkLaws.{average-entry}
use Rattle.couple.specs.AddedRows.{IsRowAdded, term, IsElementAdded, IsPartOf}

at_or : (c a : ℕ) → (c ≡ a) ⊎ (c ≡ a → ⊥)
at_or c a = elim (eqb_tells c a) [ inl h ↦ inl h.1 | inr h ↦ inr h.1 ]

module _ {K : Type 0} where
  pub with-own : (i j : ℕ) (x : K) (m : ℕ → ℕ → K) (k l : ℕ) → k ≡ i → l ≡ j → with_entry i j x m k l ≡ x
  with-own i j x m k l e h = elim (eqb_tells k i) [
    | inr n ↦ absurd (n.1 e)
    | inl a ↦ elim (eqb_tells l j) [
      | inr n ↦ absurd (n.1 h)
      | inl b ↦ λ t. if a.0 t && b.0 t then x else m k l
    ]
  ]

  pub with-other : (i j : ℕ) (x : K) (m : ℕ → ℕ → K) (k l : ℕ) → (k ≡ i → l ≡ j → ⊥) → with_entry i j x m k l ≡ m k l
  with-other i j x m k l n = elim (eqb_tells k i) [
    | inr a ↦ ap (λ b. if b && nat_eq l j then x else m k l) a.0
    | inl a ↦ elim (eqb_tells l j) [
      | inl b ↦ absurd (n a.1 b.1)
      | inr b ↦ λ t. if a.0 t && b.0 t then x else m k l
    ]
  ]

module _ {K : Type 0} (f : FieldOn K) where
  pub row-start : (a : ℕ) (x : K) (y : ℕ → K) (old : ℕ → ℕ → K) → IsRowAdded f a x y 0 old old
  row-start a x y old = record { done = λ c l. absurd (omega (arith, l)); ahead = λ c l. refl; others = λ k c n. refl }

  pub row-next : (a : ℕ) (x : K) (y : ℕ → K) (l : ℕ) (old now new : ℕ → ℕ → K) (s : K) → s ≡ f.plus (now a l) (f.times x (y l)) → ((k c : ℕ) → new k c ≡ with_entry a l s now k c) →
      IsRowAdded f a x y l old now → IsRowAdded f a x y (l + 1) old new
  row-next a x y l old now new s e w h = record {
    done = below_more (λ c. new a c ≡ f.plus (old a c) (f.times x (y c))) l
        (λ c b. let n : c ≡ l → ⊥ = λ z. absurd (omega (arith, b, z)) in w a c ∙ with-other a l s now a c (λ _ z. n z) ∙ h.done c b)
        (w a l ∙ with-own a l s now a l refl refl ∙ e ∙ ap (λ z. f.plus z (f.times x (y l))) (h.ahead l (omega arith)));
    ahead = λ c b.
        let n : c ≡ l → ⊥ = λ z. absurd (omega (arith, b, z)) in
        let b' : l ≤ c = omega (arith, b) in
        w a c ∙ with-other a l s now a c (λ _ z. n z) ∙ h.ahead c b';
    others = λ k c n. w k c ∙ with-other a l s now k c (λ z _. n z) ∙ h.others k c n;
  }

  -- a factor 0 adds nothing
  pub row-same : (a : ℕ) (x : K) (y : ℕ → K) (l : ℕ) (old : ℕ → ℕ → K) → f.is_nought x ≡ true → IsRowAdded f a x y l old old
  row-same a x y l old z = record {
    done = λ c b. sym (ap (λ t. f.plus (old a c) (f.times t (y c))) (f.is_nought-true x z) ∙ ap (f.plus (old a c)) (nought-times f (y c)) ∙ f.plus-nought (old a c));
    ahead = λ c b. refl;
    others = λ k c n. refl;
  }

  module _ (p : Pair K) (q i j : ℕ) where
    pub element-start : (old : ℕ → ℕ → K) → IsElementAdded f p q i j 0 old old
    element-start old = record { done = λ a b l m. absurd (omega (arith, l)); ahead = λ a b l m. refl }

    pub element-next : (n w : ℕ) (old now new : ℕ → ℕ → K) (x : K) (y : ℕ → K) → x ≡ p.left q n i → ((b : ℕ) → b < p.cols → y b ≡ p.right (p.group.inverse q) j b) → w ≡ p.cols →
        IsRowAdded f n x y w now new → IsElementAdded f p q i j n old now → IsElementAdded f p q i j (n + 1) old new
    element-next n w old now new x y ex ey ew r h = record {
      done = λ a b l m. elim (at_or a n) [
        | inl e ↦
            let b' : b < w = omega (arith, m, ew) in
            (λ t. new (e t) b) ∙ r.done b b'
            ∙ (λ t. f.plus (h.ahead n b (omega arith) m t) (f.times (ex t) (ey b m t)))
            ∙ (λ t. f.plus (old (sym e t) b) (term f p i j q (sym e t) b))
        | inr e ↦
            let l' : a < n = below_other a n l e in
            r.others a b e ∙ h.done a b l' m
      ];
      ahead = λ a b l m.
          let e : a ≡ n → ⊥ = λ z. absurd (omega (arith, l, z)) in
          let l' : n ≤ a = omega (arith, l) in
          r.others a b e ∙ h.ahead a b l' m;
    }
      where
        below_other : (a n : ℕ) → a < n + 1 → (a ≡ n → ⊥) → a < n
        below_other a n l e = elim (dec a n) [
          | inl m ↦ m
          | inr m ↦ let z : a ≡ n = omega (arith, l, m) in absurd (e z)
        ]

  module _ (p : Pair K) (i j : ℕ) where
    pub part-start : (X : ℕ → ℕ → K) → IsZero f p X → IsPartOf f p i j 0 X
    part-start X z = z

    pub part-next : (q : ℕ) (now new : ℕ → ℕ → K) → IsElementAdded f p q i j p.rows now new → IsPartOf f p i j q now → IsPartOf f p i j (q + 1) new
    part-next q now new e h a b la lb =
        e.done a b la lb ∙ ap (λ t. f.plus t (term f p i j q a b)) (h a b la lb) ∙ ap (λ n. total f n (λ s. term f p i j s a b)) (sym (add-one q))

    pub part-end : (q : ℕ) (X : ℕ → ℕ → K) → q ≡ p.group.order → i < p.rows → j < p.cols → IsPartOf f p i j q X → (a b : ℕ) → a < p.rows → b < p.cols → X a b ≡ average f p i j a b
    part-end q X e li lj h a b la lb = h a b la lb ∙ ap (λ n. total f n (λ s. term f p i j s a b)) e ∙ sym (average-entry f p i j a b li lj)

place-below : (n m a b : ℕ) → a < n → b < m → a * m + b < n * m
place-below n m a b la lb = grind arith

-- what holds at each place row by row holds at each row and column
pub by-places : (P : ℕ → ℕ → Type 0) (n m : ℕ) → ((p : ℕ) → p < n * m → P (p / m) (p % m)) → (a b : ℕ) → a < n → b < m → P a b
by-places P n m h a b la lb = subst (λ (x : ℕ). P x b) (div-mul-add a m b lb) (subst (λ (y : ℕ). P ((a * m + b) / m) y) (mod-mul-add a m b lb) (h (a * m + b) (place-below n m a b la lb)))
