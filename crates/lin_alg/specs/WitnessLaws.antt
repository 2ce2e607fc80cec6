-- What an element does to the vectors on which a form vanishes.
--
-- fixed-or: an element fixes a vector or not
-- moved-or, moved-free: it fixes all on which the rows of a form vanish, or moves one, one of the free basis
-- free-fixed: what fixes the free basis fixes all
-- form-stabiliser: one vector is fixed by nothing more than all on which the rows vanish
use Rattle.std.proofs.Common.{◌≡◌, ℕ, suc, zero, ◌<◌, ◌⊎◌, inl, inr, true, false, refl, sym, ◌∙◌, ap, subst, List, [], ◌∷◌, ◌↔◌, arith, length}
use Rattle.std.specs.List.{slice_index}
use Rattle.cyclo24.specs.FieldOn.{FieldOn}
use Rattle.cyclo24.specs.ExactField.{ExactField, Value}
use Rattle.lin_alg.specs.Action.{Action, IsFixed, image}
use Rattle.lin_alg.specs.EquationLaws.{dec, dot-clear, free-vanishes, vanish-subspace, within-subspace}
use Rattle.lin_alg.specs.Equations.{Vanishes, dot, free_vector}
use Rattle.cyclo24.specs.FieldLaws.{neg-neg, neg-unique}
use Rattle.lin_alg.specs.FreeLaws.{free-span}
use Rattle.lin_alg.specs.Fixed.{FixesAll, mover}
use Rattle.lin_alg.specs.FormLaws.{vanishes-subspace}
use Rattle.lin_alg.specs.InsertLaws.{member-reduce, reduce-clear, reduce-has, span-least}
use Rattle.lin_alg.specs.MoverLaws.{mover-row, mover-within}
use Rattle.lin_alg.specs.Reduced.{free_columns, IsForm, IsWithin, reduce}
use Rattle.lin_alg.specs.Spans.{row_vectors, IsInSpan}
use Rattle.lin_alg.specs.StabiliserLaws.{whole_stabiliser}
use Rattle.lin_alg.specs.UnionLaws.{lower}

-- each number below n has P, or one has R
pub each-or : (P R : ℕ → Type 0) (n : ℕ) → ((i : ℕ) → i < n → P i ⊎ R i) → ((i : ℕ) → i < n → P i) ⊎ ((i : ℕ) × (i < n) × R i)
each-or P R zero d = inl (λ i l. absurd (omega arith))
each-or P R (suc n) d =
    elim (each-or P R n (λ i l. d i (omega arith))) [
      | inr r ↦ let l : r.0 < suc n = let h = r.1 in omega arith in inr (r.0, l, r.2)
      | inl a ↦ elim (d n (omega arith)) [
        | inr r ↦ let l : n < suc n = omega arith in inr (n, l, r)
        | inl p ↦ inl (λ i l. elim (lower i n l) [ inl k ↦ a i k | inr e ↦ subst P (sym e) p ])
      ]
    ]

module _ {K : Type 0} (f : FieldOn K) where
  -- exact values are equal or not
  pub same-or : (x y : K) → (x ≡ y) ⊎ (x ≡ y → ⊥)
  same-or x y =
      let z : K = f.plus x (f.neg y) in
      (elim (f.is_nought z) as (λ b. (f.is_nought z ≡ b) → (x ≡ y) ⊎ (x ≡ y → ⊥)) [
        | true ↦ λ h. inl (neg-unique f x (f.neg y) (f.is_nought-true z h) ∙ neg-neg f y)
        | false ↦ λ h. inr (λ e.
            let t : true ≡ false = sym f.is_nought-nought ∙ ap f.is_nought (sym (ap (λ a. f.plus a (f.neg y)) e ∙ f.plus-neg y)) ∙ h in cc)
      ]) refl

module _ {K : Type 0} (f : FieldOn K) where
  -- rows vanish on a vector or not
  pub vanishes-or : (w : ℕ) (rs : List (ℕ → K)) (v : ℕ → K) → Vanishes f w rs v ⊎ (Vanishes f w rs v → ⊥)
  vanishes-or w [] v = inl tt
  vanishes-or w (r ∷ rs) v =
      elim (same-or f (dot f w r v) f.nought) [
        | inr n ↦ inr (λ h. n h.0)
        | inl e ↦ elim (vanishes-or w rs v) [ inl h ↦ inl (e, h) | inr n ↦ inr (λ h. n h.1) ]
      ]

module _ (f : ExactField) (act : Action) where
  -- an element leaves a vector as it is, or not
  pub fixed-or : (q : ℕ) (v : ℕ → Value f) → IsFixed f.laws act q v ⊎ (IsFixed f.laws act q v → ⊥)
  fixed-or q v =
      elim (each-or (λ i. image f.laws act q v i ≡ v i) (λ i. image f.laws act q v i ≡ v i → ⊥) act.dim (λ i l. same-or f.laws (image f.laws act q v i) (v i))) [
        | inl a ↦ inl a
        | inr r ↦ inr (λ a. r.2 (a r.0 r.1))
      ]

  row-or : (rs : List (ℕ × (ℕ → Value f))) (q i : ℕ) →
      ((j : ℕ) → j < act.dim → reduce f.laws rs (mover f.laws act q i) j ≡ f.laws.nought)
      ⊎ ((j : ℕ) × (j < act.dim) × (reduce f.laws rs (mover f.laws act q i) j ≡ f.laws.nought → ⊥))
  row-or rs q i =
      each-or (λ j. reduce f.laws rs (mover f.laws act q i) j ≡ f.laws.nought) (λ j. reduce f.laws rs (mover f.laws act q i) j ≡ f.laws.nought → ⊥) act.dim
      (λ j l. same-or f.laws (reduce f.laws rs (mover f.laws act q i) j) f.laws.nought)

  -- q leaves all of the null space of a form as it is, or moves one of the form's free vectors
  pub moved-or : (rs : List (ℕ × (ℕ → Value f))) → IsForm f.laws act.dim rs → (q : ℕ) →
      ((v : ℕ → Value f) → Vanishes f.laws act.dim (row_vectors rs) v → IsFixed f.laws act q v)
      ⊎ ((v : ℕ → Value f) × Vanishes f.laws act.dim (row_vectors rs) v × (IsFixed f.laws act q v → ⊥))
  moved-or rs r q =
      elim (each-or (λ i. (j : ℕ) → j < act.dim → reduce f.laws rs (mover f.laws act q i) j ≡ f.laws.nought)
      (λ i. (j : ℕ) × (j < act.dim) × (reduce f.laws rs (mover f.laws act q i) j ≡ f.laws.nought → ⊥)) act.dim (λ i l. row-or rs q i)) [
        | inl a ↦ inl (λ v k i l.
            let x : ℕ → Value f = mover f.laws act q i in
            let own : IsInSpan f.laws (row_vectors rs) x = member-reduce f.laws rs x (λ j. elim (dec j act.dim) [
              | inl m ↦ a i l j m
              | inr m ↦ reduce-has f.laws (IsWithin f.laws act.dim) (within-subspace f.laws act.dim) rs r.within x (mover-within f act q i) j m
            ]) in
            (mover-row f act q i v l).0 (span-least f.laws (λ y. dot f.laws act.dim y v ≡ f.laws.nought) (vanish-subspace f.laws act.dim v) (row_vectors rs) k x own))
        | inr b ↦
            let i : ℕ = b.0 in
            let j : ℕ = b.2.0 in
            let x : ℕ → Value f = mover f.laws act q i in
            let v : ℕ → Value f = free_vector f.laws rs j in
            let k : Vanishes f.laws act.dim (row_vectors rs) v = free-vanishes f.laws act.dim rs j b.2.1 r.pivots r.reduced in
            inr (
              v,
              k,
              λ h. b.2.2 (
                  sym (dot-clear f.laws act.dim rs (reduce f.laws rs x) j b.2.1 r.pivots (reduce-clear f.laws rs x r.reduced))
                  ∙ reduce-has f.laws (λ y. dot f.laws act.dim y v ≡ f.laws.nought) (vanish-subspace f.laws act.dim v) rs k x ((mover-row f act q i v b.1).1 (h i b.1))),
            )
      ]

  -- the null space of a form has a vector whose stabiliser is the space's own
  pub form-stabiliser : (rs : List (ℕ × (ℕ → Value f))) → IsForm f.laws act.dim rs →
      (v : ℕ → Value f) × Vanishes f.laws act.dim (row_vectors rs) v
      × ((q : ℕ) → q < act.group.order → FixesAll (IsFixed f.laws act) (Vanishes f.laws act.dim (row_vectors rs)) q ↔ IsFixed f.laws act q v)
  form-stabiliser rs r =
      let t = whole_stabiliser f act (Vanishes f.laws act.dim (row_vectors rs)) (vanishes-subspace f.laws act.dim (row_vectors rs)) fixed-or (moved-or rs r) in
      (t.0, t.1, λ q l. (λ a. a t.0 t.1, λ h. t.2 q l h))

  -- what fixes each vector of the free basis of a form fixes all on which its rows vanish
  pub free-fixed : (rs : List (ℕ × (ℕ → Value f))) → IsForm f.laws act.dim rs → (q : ℕ) →
      ((i : ℕ) → i < length (free_columns act.dim rs) → IsFixed f.laws act q (free_vector f.laws rs (slice_index (free_columns act.dim rs) i))) →
      (v : ℕ → Value f) → Vanishes f.laws act.dim (row_vectors rs) v → IsFixed f.laws act q v
  free-fixed rs r q h v k i l =
      let x : ℕ → Value f = mover f.laws act q i in
      let own : IsInSpan f.laws (row_vectors rs) x = free-span f.laws act.dim rs x r (mover-within f act q i) (λ c m.
      (mover-row f act q i (free_vector f.laws rs (slice_index (free_columns act.dim rs) c)) l).1 (h c m i l)) in
      (mover-row f act q i v l).0 (span-least f.laws (λ y. dot f.laws act.dim y v ≡ f.laws.nought) (vanish-subspace f.laws act.dim v) (row_vectors rs) k x own)

  -- an element fixes all on which the rows of a form vanish, or moves a vector of its free basis
  pub moved-free : (rs : List (ℕ × (ℕ → Value f))) → IsForm f.laws act.dim rs → (q : ℕ) →
      ((v : ℕ → Value f) → Vanishes f.laws act.dim (row_vectors rs) v → IsFixed f.laws act q v)
      ⊎ ((i : ℕ) × (i < length (free_columns act.dim rs)) × (IsFixed f.laws act q (free_vector f.laws rs (slice_index (free_columns act.dim rs) i)) → ⊥))
  moved-free rs r q =
      elim (each-or (λ i. IsFixed f.laws act q (free_vector f.laws rs (slice_index (free_columns act.dim rs) i)))
      (λ i. IsFixed f.laws act q (free_vector f.laws rs (slice_index (free_columns act.dim rs) i)) → ⊥) (length (free_columns act.dim rs))
      (λ i l. fixed-or q (free_vector f.laws rs (slice_index (free_columns act.dim rs) i)))) [
        | inl a ↦ inl (λ v k. free-fixed rs r q a v k)
        | inr b ↦ inr b
      ]
