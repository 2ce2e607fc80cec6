-- What rows as equations obey.
--
-- dot-unit, dot-less: values of a row
-- free-vanishes: each row of a form vanishes on each free vector
-- vanish-subspace, within-subspace: the rows that vanish on a vector, and those of w columns, are subspaces
-- vanishing-span: a row that vanishes where the rows of a form do is in their span
use Rattle.std.proofs.Common.{◌≡◌, ℕ, suc, zero, ◌<◌, ◌≤◌, ◌⊎◌, inl, inr, true, false, refl, sym, ◌∙◌, ap, subst, List, [], ◌∷◌, arith, nat_eq, if◌then◌else◌}
use Rattle.std.proofs.lemmas.Bool.Decides.{eqb_tells}
use Rattle.cyclo24.specs.FieldOn.{FieldOn}
use Rattle.lin_alg.specs.Spans.{row_vectors, less, IsInSpan, IsSubspace, HasRows}
use Rattle.lin_alg.specs.Reduced.{reduce, EndsAt, ArePast, IsReduced, IsClear}
use Rattle.cyclo24.specs.FieldLaws.{nought-plus, times-nought, nought-times, less-at-nought, less-own, plus-times, times-neg}
use Rattle.lin_alg.specs.InsertLaws.{reduce-has, reduce-clear, member-reduce}
use Rattle.cyclo24.specs.Sums.{total}
use Rattle.lin_alg.specs.Equations.{dot, unit_vector, free_vector}
use Rattle.lin_alg.specs.Reduced.{IsWithin, PivotsBelow}
use Rattle.cyclo24.specs.TotalLaws.{total-same, total-nought, total-plus, total-times}

pub dec : (k n : ℕ) → (k < n) ⊎ (n ≤ k)
dec k n = grind arith

pub eq-self : (n : ℕ) → nat_eq n n ≡ true
eq-self n = grind (arith)

pub eq-other : (k p : ℕ) → (k ≡ p → ⊥) → nat_eq k p ≡ false
eq-other k p n = elim (eqb_tells k p) [ inl h ↦ absurd (n h.1) | inr h ↦ h.0 ]

module _ {K : Type 0} (f : FieldOn K) where
  unit-own : (p : ℕ) → unit_vector f p p ≡ f.unit
  unit-own p = ap (λ b. if b then f.unit else f.nought) (eq-self p)

  pub unit-other : (p k : ℕ) → (k ≡ p → ⊥) → unit_vector f p k ≡ f.nought
  unit-other p k n = ap (λ b. if b then f.unit else f.nought) (eq-other k p n)

  pub dot-unit : (w : ℕ) (x : ℕ → K) (p : ℕ) → p < w → dot f w x (unit_vector f p) ≡ x p
  dot-unit zero x p l = absurd (omega arith)
  dot-unit (suc w) x p l =
      elim (dec p w) [
        | inl k ↦
            let n : w ≡ p → ⊥ = omega arith in
            (λ i. f.plus (dot-unit w x p k i) (f.times (x w) (unit-other p w n i))) ∙ ap (f.plus (x p)) (times-nought f (x w)) ∙ f.plus-nought (x p)
        | inr k ↦
            let e : w ≡ p = omega arith in
            let none : total f w (λ j. f.times (x j) (unit_vector f p j)) ≡ f.nought =
            total-same f w _ (λ _. f.nought) (λ j h. let n : j ≡ p → ⊥ = omega arith in ap (f.times (x j)) (unit-other p j n) ∙ times-nought f (x j)) ∙ total-nought f w in
            let last : f.times (x w) (unit_vector f p w) ≡ x p = subst (λ (z : ℕ). f.times (x w) (unit_vector f z w) ≡ x z) e (ap (f.times (x w)) (unit-own w) ∙ f.times-unit (x w)) in
            (λ i. f.plus (none i) (last i)) ∙ nought-plus f (x p)
      ]

  -- x (u - c v) = x u - c (x v)
  pub dot-less : (w : ℕ) (x u : ℕ → K) (c : K) (v : ℕ → K) → dot f w x (less f u c v) ≡ f.plus (dot f w x u) (f.neg (f.times c (dot f w x v)))
  dot-less w x u c v =
      let term : (k : ℕ) → f.times (x k) (less f u c v k) ≡ f.plus (f.times (x k) (u k)) (f.times (f.neg c) (f.times (x k) (v k))) =
      λ k. f.times-plus (x k) (u k) (f.neg (f.times c (v k))) ∙ ap (f.plus (f.times (x k) (u k)))
      (times-neg f (x k) (f.times c (v k)) ∙ ap f.neg (sym (f.times_assoc (x k) c (v k)) ∙ ap (λ z. f.times z (v k)) (f.times_comm (x k) c) ∙ f.times_assoc c (x k) (v k))
      ∙ sym (f.times_comm (f.neg c) (f.times (x k) (v k)) ∙ times-neg f (f.times (x k) (v k)) c ∙ ap f.neg (f.times_comm (f.times (x k) (v k)) c))) in
      total-same f w _ _ (λ k l. term k) ∙ total-plus f w (λ k. f.times (x k) (u k)) (λ k. f.times (f.neg c) (f.times (x k) (v k)))
      ∙ ap (f.plus (dot f w x u)) (total-times f w (f.neg c) (λ k. f.times (x k) (v k)) ∙ f.times_comm (f.neg c) (dot f w x v) ∙ times-neg f (dot f w x v) c ∙ ap f.neg (f.times_comm (dot f w x v) c))

  -- a row that is 0 at each pivot gives its own entry at a free vector
  pub dot-clear : (w : ℕ) (rs : List (ℕ × (ℕ → K))) (x : ℕ → K) (j : ℕ) → j < w → PivotsBelow w rs → IsClear f rs x → dot f w x (free_vector f rs j) ≡ x j
  dot-clear w [] x j l b z = dot-unit w x j l
  dot-clear w (r ∷ rs) x j l b z =
      dot-less w x (free_vector f rs j) (r.1 j) (unit_vector f r.0)
      ∙ (λ i. f.plus (dot-clear w rs x j l b.1 z.1 i) (f.neg (f.times (r.1 j) ((dot-unit w x r.0 b.0 ∙ z.0) i))))
      ∙ less-at-nought f (x j) (r.1 j)

  ends-clear : (p : ℕ) (b : ℕ → K) (rs : List (ℕ × (ℕ → K))) → EndsAt f p b → ArePast f p rs → IsClear f rs b
  ends-clear p b [] e a = tt
  ends-clear p b (r ∷ rs) e a = (e.1 r.0 a.0, ends-clear p b rs e a.2)

  still : (w : ℕ) (p : ℕ) (c : K) (u : ℕ → K) (all : List (ℕ × (ℕ → K))) → p < w → ArePast f p all →
      HasRows (λ x. dot f w x u ≡ f.nought) (row_vectors all) → HasRows (λ x. dot f w x (less f u c (unit_vector f p)) ≡ f.nought) (row_vectors all)
  still w p c u [] l a h = tt
  still w p c u (r ∷ rs) l a h = (
    dot-less w r.1 u c (unit_vector f p) ∙ (λ i. f.plus (h.0 i) (f.neg (f.times c ((dot-unit w r.1 p l ∙ a.1) i)))) ∙ less-at-nought f f.nought c,
    still w p c u rs l a.2 h.1,
  )

  -- each row of a reduced form vanishes on each free vector
  pub free-vanishes : (w : ℕ) (rs : List (ℕ × (ℕ → K))) (j : ℕ) → j < w → PivotsBelow w rs → IsReduced f rs → HasRows (λ x. dot f w x (free_vector f rs j) ≡ f.nought) (row_vectors rs)
  free-vanishes w [] j l b r = tt
  free-vanishes w (s ∷ rs) j l b r = (
    dot-less w s.1 (free_vector f rs j) (s.1 j) (unit_vector f s.0)
        ∙ (λ i. f.plus (dot-clear w rs s.1 j l b.1 (ends-clear s.0 s.1 rs r.0 r.1) i) (f.neg (f.times (s.1 j) ((dot-unit w s.1 s.0 b.0 ∙ r.0.0) i))))
        ∙ less-own f (s.1 j),
    still w s.0 (s.1 j) (free_vector f rs j) rs b.0 r.1 (free-vanishes w rs j l b.1 r.2),
  )

  pub vanish-subspace : (w : ℕ) (v : ℕ → K) → IsSubspace f (λ x. dot f w x v ≡ f.nought)
  vanish-subspace w v = record {
    has_nought = total-same f w _ (λ _. f.nought) (λ k l. nought-times f (v k)) ∙ total-nought f w;
    has_plus = λ x y h k. total-same f w _ _ (λ i l. plus-times f (x i) (y i) (v i)) ∙ total-plus f w (λ i. f.times (x i) (v i)) (λ i. f.times (y i) (v i)) ∙ (λ i. f.plus (h i) (k i)) ∙ f.plus-nought f.nought;
    has_times = λ c x h. total-same f w _ _ (λ i l. f.times_assoc c (x i) (v i)) ∙ total-times f w c (λ i. f.times (x i) (v i)) ∙ ap (f.times c) h ∙ times-nought f c;
  }

  pub within-subspace : (w : ℕ) → IsSubspace f (IsWithin f w)
  within-subspace w = record {
    has_nought = λ j l. refl;
    has_plus = λ x y h k j l. (λ i. f.plus (h j l i) (k j l i)) ∙ f.plus-nought f.nought;
    has_times = λ c x h j l. ap (f.times c) (h j l) ∙ times-nought f c;
  }

  -- a row that vanishes wherever the rows of the form do is in their span
  pub vanishing-span : (w : ℕ) (rs : List (ℕ × (ℕ → K))) (x : ℕ → K) → PivotsBelow w rs → IsReduced f rs → HasRows (IsWithin f w) (row_vectors rs) → IsWithin f w x →
      ((v : ℕ → K) → HasRows (λ y. dot f w y v ≡ f.nought) (row_vectors rs) → dot f w x v ≡ f.nought) → IsInSpan f (row_vectors rs) x
  vanishing-span w rs x b r inside x_in h =
      member-reduce f rs x (λ j. elim (dec j w) [
        | inl l ↦
            let v = free_vector f rs j in
            let rows : HasRows (λ y. dot f w y v ≡ f.nought) (row_vectors rs) = free-vanishes w rs j l b r in
            sym (dot-clear w rs (reduce f rs x) j l b (reduce-clear f rs x r))
            ∙ reduce-has f (λ y. dot f w y v ≡ f.nought) (vanish-subspace w v) rs rows x (h v rows)
        | inr l ↦ reduce-has f (IsWithin f w) (within-subspace w) rs inside x x_in j l
      ])
