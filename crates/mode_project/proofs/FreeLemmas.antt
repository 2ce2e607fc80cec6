use Rattle.std.proofs.Common.{◌≡◌, ℕ, suc, ◌<◌, ◌≤◌, inl, inr, sym, ◌∙◌, ap, subst, arith, ltb, lt-ltb, le-ltb, if◌then◌else◌, List}
use Rattle.std.specs.Prelude.{slice_index_or}
use Rattle.algebra.specs.PigeonholeLaws.{pigeonhole}
use Rattle.algebra.specs.SumLaws.{decide}
use Rattle.lin_alg.specs.EquationLaws.{dec}
use Rattle.mode_project.specs.AtomSpace.{AtomSpace, IsAtomSpace}
use Rattle.mode_project.specs.Turns.{AreWays}

module _ (s : AtomSpace) (law : IsAtomSpace s) (ways : List (ℕ × ℕ)) (h : AreWays s ways s.atoms) (free : s.atoms ≡ s.group.order) where
  abbrev to : ℕ → ℕ
  to i = (slice_index_or ways i (0, 0)).0

  -- where there are as many atoms as elements, an element is told by what it does with the first atom
  pub way-of : (q : ℕ) → q < s.group.order → (slice_index_or ways (s.image q 0) (0, 0)).0 ≡ q
  way-of q lq =
      elim (decide (to (s.image q 0)) q) [
        | inl e ↦ e
        | inr n ↦
            let pick : ℕ → ℕ = λ i. if ltb i s.atoms then to i else q in
            let inside : (i : ℕ) → i < s.atoms → pick i ≡ to i = λ i l. ap (λ t. if t then to i else q) (lt-ltb i s.atoms l) in
            let past : (i : ℕ) → s.atoms ≤ i → pick i ≡ q = λ i l. ap (λ t. if t then to i else q) (le-ltb i s.atoms l) in
            let below : (i : ℕ) → i < suc s.atoms → pick i < s.group.order =
            λ i l. elim (dec i s.atoms) [
              | inl k ↦ subst (λ (z : ℕ). z < s.group.order) (sym (inside i k)) (h.each i k).below
              | inr k ↦ subst (λ (z : ℕ). z < s.group.order) (sym (past i k)) lq
            ] in
            let other : (i : ℕ) → i < s.atoms → to i ≡ q → ⊥ =
            λ i l e. n (ap to (ap (λ z. s.image z 0) (sym e) ∙ (h.each i l).reaches) ∙ e) in
            let apart : (i j : ℕ) → i < suc s.atoms → j < suc s.atoms → pick i ≡ pick j → i ≡ j =
            λ i j l m e. elim (dec i s.atoms) [
              | inl k ↦ elim (dec j s.atoms) [
                | inl t ↦ sym (h.each i k).reaches ∙ ap (λ z. s.image z 0) (sym (inside i k) ∙ e ∙ inside j t) ∙ (h.each j t).reaches
                | inr t ↦ absurd (other i k (sym (inside i k) ∙ e ∙ past j t))
              ]
              | inr k ↦ elim (dec j s.atoms) [
                | inl t ↦ absurd (other j t (sym (inside j t) ∙ sym e ∙ past i k))
                | inr t ↦ omega (arith, k, t, l, m)
              ]
            ] in
            let few : suc s.atoms ≤ s.group.order = pigeonhole (suc s.atoms) s.group.order (λ i _. pick i) below (λ i j l m. apart i j l m) in
            absurd (omega (arith, few, free))
      ]

  pub product-way : (a b : ℕ) → a < s.group.order → b < s.group.order → (slice_index_or ways (s.image a (s.image b 0)) (0, 0)).0 ≡ s.group.product a b
  product-way a b la lb =
      ap to (sym (law.images.product a b 0 la lb law.some)) ∙ way-of (s.group.product a b) (law.group.product_below a b la lb)

  pub inverse-way : (a : ℕ) → a < s.group.order → (slice_index_or ways (s.image a 0) (0, 0)).1 ≡ s.group.inverse a
  inverse-way a la = (h.each (s.image a 0) (law.images.below a 0 la law.some)).inverse ∙ ap s.group.inverse (way-of a la)
