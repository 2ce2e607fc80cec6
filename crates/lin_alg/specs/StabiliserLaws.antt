-- A subspace has a vector whose stabiliser is the pointwise stabiliser of the subspace.
--
-- generic_member: a member of a subspace that lies only in those of finitely many subspaces that hold all of it
-- fixed-subspace: what an element fixes is a subspace
-- whole_stabiliser: a vector fixed by nothing more than the subspace is
use Rattle.std.proofs.Common.{◌≡◌, ℕ, suc, zero, ◌<◌, ◌⊎◌, inl, inr, false, sym, ◌∙◌, ap, subst, arith}
use Rattle.cyclo24.specs.FieldOn.{FieldOn, ones}
use Rattle.cyclo24.specs.ExactField.{ExactField, Value}
use Rattle.lin_alg.specs.Action.{Action, IsFixed, entry_of}
use Rattle.lin_alg.specs.ActionLaws.{fixed-plus}
use Rattle.cyclo24.specs.FieldLaws.{times-nought}
use Rattle.lin_alg.specs.Spans.{IsSubspace}
use Rattle.cyclo24.specs.TotalLaws.{total-nought, total-same, total-times}
use Rattle.lin_alg.specs.UnionLaws.{free_number, lower, more, two-points}

-- P, where the answer is the second
abbrev pub Counts : {A R : Type 0} → A ⊎ R → Type 0 → Type 0
Counts (inl a) P = ⊥
Counts (inr r) P = P

counts-decide : {A R : Type 0} (d : A ⊎ R) (P : Type 0) → P ⊎ (P → ⊥) → Counts d P ⊎ (Counts d P → ⊥)
counts-decide (inl a) P e = inr (λ h. h)
counts-decide (inr r) P e = e

counts-once : {A R : Type 0} (d : A ⊎ R) (P Q : Type 0) → (R → P → Q → ⊥) → Counts d P → Counts d Q → ⊥
counts-once (inl a) P Q h p q = p
counts-once (inr r) P Q h p q = h r p q

counts-end : {A R : Type 0} (d : A ⊎ R) (P : Type 0) → (Counts d P → ⊥) → P → A
counts-end (inl a) P g p = a
counts-end (inr r) P g p = absurd (g p)

module _ {K : Type 0} (f : FieldOn K) (char : (n : ℕ) → f.is_nought (ones f (suc n)) ≡ false)
    (U : (ℕ → K) → Type 0) (sub : IsSubspace f U) (F : ℕ → (ℕ → K) → Type 0) (spaces : (i : ℕ) → IsSubspace f (F i)) (decide : (i : ℕ) (v : ℕ → K) → F i v ⊎ (F i v → ⊥))
    (proper : (i : ℕ) → ((w : ℕ → K) → U w → F i w) ⊎ ((w : ℕ → K) × U w × (F i w → ⊥))) where
  -- a member of U that lies in F i only where all of U does
  pub generic_member : (n : ℕ) → (v : ℕ → K) × U v × ((i : ℕ) → i < n → F i v → (w : ℕ → K) → U w → F i w)
  generic_member zero = ((λ _. f.nought), sub.has_nought, λ i l. absurd (omega arith))
  generic_member (suc n) =
      let old = generic_member n in
      elim (proper n) [
        | inl a ↦ (old.0, old.1, λ i l h. elim (lower i n l) [ inl b ↦ old.2 i b h | inr e ↦ subst (λ (z : ℕ). (w : ℕ → K) → U w → F z w) (sym e) a ])
        | inr new ↦
            let v : ℕ → K = old.0 in
            let w : ℕ → K = new.0 in
            let bad : ℕ → ℕ → Type 0 = λ i t. Counts (proper i) (F i (more f v (ones f t) w)) in
            let once : (i t u : ℕ) → i < suc n → t < u → bad i t → bad i u → ⊥ =
            λ i t u l lt. counts-once (proper i) (F i (more f v (ones f t) w)) (F i (more f v (ones f u) w)) (λ r h k.
            let both : F i w × F i v = two-points f char (F i) (spaces i) v w t u lt h k in
            elim (lower i n l) [ inl b ↦ r.2 (old.2 i b both.1 r.0 r.1) | inr e ↦ new.2 (subst (λ (z : ℕ). F z w) e both.0) ]) in
            let free = free_number bad (suc n) (λ i t l. counts-decide (proper i) (F i (more f v (ones f t) w)) (decide i (more f v (ones f t) w))) once 0 in (
              more f v (ones f free.0) w,
              sub.has_plus v (λ j. f.times (ones f free.0) (w j)) old.1 (sub.has_times (ones f free.0) w new.1),
              λ i l h. counts-end (proper i) (F i (more f v (ones f free.0) w)) (free.2 i l) h,
            )
      ]

module _ (f : ExactField) (act : Action) where
  pub fixed-subspace : (q : ℕ) → IsSubspace f.laws (IsFixed f.laws act q)
  fixed-subspace q = record {
    has_nought = λ i l. total-same f.laws act.dim _ (λ _. f.laws.nought) (λ k m. times-nought f.laws (entry_of f.laws act q i k)) ∙ total-nought f.laws act.dim;
    has_plus = fixed-plus f act q;
    has_times = λ c v h i l.
        total-same f.laws act.dim _ _ (λ k m. sym (f.laws.times_assoc (entry_of f.laws act q i k) c (v k)) ∙ ap (λ z. f.laws.times z (v k)) (f.laws.times_comm (entry_of f.laws act q i k) c) ∙ f.laws.times_assoc c (entry_of f.laws act q i k) (v k))
        ∙ total-times f.laws act.dim c (λ k. f.laws.times (entry_of f.laws act q i k) (v k)) ∙ ap (f.laws.times c) (h i l);
  }

  -- each subspace has a vector whose stabiliser is the pointwise stabiliser of the subspace
  pub whole_stabiliser : (U : (ℕ → Value f) → Type 0) → IsSubspace f.laws U →
      ((q : ℕ) (v : ℕ → Value f) → IsFixed f.laws act q v ⊎ (IsFixed f.laws act q v → ⊥)) →
      ((q : ℕ) → ((w : ℕ → Value f) → U w → IsFixed f.laws act q w) ⊎ ((w : ℕ → Value f) × U w × (IsFixed f.laws act q w → ⊥))) →
      (v : ℕ → Value f) × U v × ((q : ℕ) → q < act.group.order → IsFixed f.laws act q v → (w : ℕ → Value f) → U w → IsFixed f.laws act q w)
  whole_stabiliser U sub decide proper =
      generic_member f.laws f.characteristic_zero U sub (IsFixed f.laws act) fixed-subspace decide proper act.group.order
