use Rattle.std.proofs.Common.{◌≡◌, ℕ, suc, zero, ◌+◌, ◌-◌, ◌*◌, ◌/◌, ◌%◌, ◌<◌, ◌≤◌, inl, inr, sym, ◌∙◌, ap, subst, arith, List, [], ◌∷◌, length, map, get_or, take, nat_eq, if◌then◌else◌, lt-ltb, eq-eqb, ne_eqb}
use Rattle.algebra.specs.SumLaws.{decide}
use Rattle.cyclo24.specs.FieldLaws.{times-nought}
use Rattle.cyclo24.specs.ExactZ24.{ExactZ24, z24_laws, power}
use Rattle.cyclo24.specs.TotalLaws.{total-same, total-times}
use Rattle.cyclo24.specs.Z24RootsLaws.{power-plus, power-24, power-mod}
use Rattle.lin_alg.specs.Matrices.{apply, unit_entry, AreEqualBelow, IsRepresentation}
use Rattle.super_group.specs.Quotient.{SupercellGroup, IsQuotient, order_of, quotient_group}
use Rattle.super_group.specs.QuotientLaws.{quotient-lawful, row_below}
use Rattle.small_rep.specs.SmallRep.{phased}
use Rattle.std.proofs.lemmas.Nat.{div_below}
use Rattle.real_form.specs.declared.candidate.Candidate.{Candidate}
use Rattle.real_form.specs.declared.candidate.Candidate.TheVariants.{Pair}
use Rattle.real_form.specs.Candidates.{candidate_entry, candidate_vector}
use Rattle.real_form.specs.Complexes.{z24_parts}
use Rattle.real_form.specs.Orbits.{Fits, NoneOf}
use Rattle.real_form.specs.Sparse.{IsPhase, ArePhases}
use Rattle.real_form.specs.Shifts.{IsShift, IsShifted}
use Rattle.real_form.proofs.Factors.{some_rotation, translation_of_order}
use Rattle.real_form.proofs.PartsLaws.{apply-unit}
use Rattle.real_form.proofs.CombinedLemmas.{phase-at}
use Rattle.real_form.proofs.ScaledLaws.{moved-fits}

-- the entries of 1 at i, and z^a at j
module _ (n i j a : ℕ) where
  at_pair : (x : ℕ) → x < n → candidate_vector n (Pair i j a) x ≡ candidate_entry (Pair i j a) x
  unfolding candidate_vector
  at_pair x l = ap (λ b. if b then candidate_entry (Pair i j a) x else z24_laws.nought) (lt-ltb x n l)

  pub pair-first_place : (x : ℕ) → x < n → x ≡ i → candidate_vector n (Pair i j a) x ≡ z24_laws.unit
  pair-first_place x l e = at_pair x l ∙ ap (λ b. if b then z24_laws.unit else (if nat_eq x j then power a else z24_laws.nought)) (eq-eqb x i e)

  pub pair-second_place : (x : ℕ) → x < n → (x ≡ i → ⊥) → x ≡ j → candidate_vector n (Pair i j a) x ≡ power a
  pair-second_place x l d e =
      at_pair x l ∙ ap (λ b. if b then z24_laws.unit else (if nat_eq x j then power a else z24_laws.nought)) (ne_eqb x i d)
      ∙ ap (λ b. if b then power a else z24_laws.nought) (eq-eqb x j e)

  pub pair-other_place : (x : ℕ) → x < n → (x ≡ i → ⊥) → (x ≡ j → ⊥) → candidate_vector n (Pair i j a) x ≡ z24_laws.nought
  pair-other_place x l d e =
      at_pair x l ∙ ap (λ b. if b then z24_laws.unit else (if nat_eq x j then power a else z24_laws.nought)) (ne_eqb x i d)
      ∙ ap (λ b. if b then power a else z24_laws.nought) (ne_eqb x j e)

-- powers of z by a shift
shifted-power : (p o a d : ℕ) → (p + d) % 24 ≡ o % 24 → z24_laws.times (power o) (power a) ≡ z24_laws.times (power p) (power (a + d))
shifted-power p o a d e =
    let same : power o ≡ power (p + d) = sym (power-mod o) ∙ ap power (sym e) ∙ power-mod (p + d) in
    let k : (p + d) + a ≡ p + (a + d) = omega arith in
    ap (λ x. z24_laws.times x (power a)) same ∙ sym (power-plus (p + d) a) ∙ ap power k ∙ power-plus p (a + d)

undone-power : (p : ℕ) → p < 24 → z24_laws.times (power (24 - p)) (power p) ≡ z24_laws.unit
undone-power p l = let e : (24 - p) + p ≡ 24 = omega (arith, l) in sym (power-plus (24 - p) p) ∙ ap power e ∙ power-24

module _ (q : SupercellGroup) (h : IsQuotient q) (n s A : ℕ) (en : n ≡ A * s) (some : 0 < s) (D : ℕ → ℕ → ℕ → ExactZ24) (rep : IsRepresentation z24_laws (quotient_group q) n D) (one : AreEqualBelow n (D 0) (unit_entry z24_laws))
    (ps : List ℕ) (phases : ArePhases (length q.parent.ops) (length q.translations) n s D ps (A * length q.translations)) where
  abbrev R : ℕ
  R = length q.parent.ops

  abbrev T : ℕ
  T = length q.translations

  -- a translation multiplies the entries of an arm by its phase
  phased-entry : (w : ℕ → ExactZ24) (t k x : ℕ) → t < T → x < n → IsPhase R T n s D k (x / s) t → apply z24_laws n (D t) w x ≡ phased k (w x)
  phased-entry w t k x lt lx at =
      total-same z24_laws n _ (λ y. z24_laws.times (power k) (z24_laws.times (D 0 x y) (w y)))
      (λ y ly. ap (λ z. z24_laws.times z (w y)) (row y ly) ∙ z24_laws.times_assoc (power k) (D 0 x y) (w y))
      ∙ total-times z24_laws n (power k) (λ y. z24_laws.times (D 0 x y) (w y))
      ∙ ap (z24_laws.times (power k)) (apply-unit z24_laws n (D 0) one w x lx)
    where
      none : 0 * T ≡ 0
      none = omega arith

      only : 0 * T + t ≡ t
      only = omega arith

      row : (y : ℕ) → y < n → D t x y ≡ z24_laws.times (power k) (D 0 x y)
      row y ly = ap (λ i. D i x y) (sym only) ∙ at 0 x y (some_rotation q h) lx ly (λ _. x / s) ∙ ap (λ i. z24_laws.times (power k) (D i x y)) none

  some-phase : (t x : ℕ) → t < T → x < n → (k : ℕ) × IsPhase R T n s D k (x / s) t
  some-phase t x lt lx =
      let lx' : x < A * s = subst (λ (k : ℕ). x < k) en lx in
      let lj : x / s < A = div_below x s A some lx' in
      (_, phase-at R T n s A D ps (A * T) phases (x / s) t lt (row_below A T (x / s) t lj lt))

  -- the image of the one under the translation is a multiple of the other
  moved-entry : (i j a d t p o : ℕ) → t < T → IsPhase R T n s D p (i / s) t → IsPhase R T n s D o (j / s) t → (p + d) % 24 ≡ o % 24 → (x : ℕ) → x < n →
      apply z24_laws n (D t) (candidate_vector n (Pair i j a)) x ≡ z24_laws.times (power p) (candidate_vector n (Pair i j (a + d)) x)
  moved-entry i j a d t p o lt hp ho e x lx =
      elim (decide x i) [
        | inl m ↦
            phased-entry (candidate_vector n (Pair i j a)) t p x lt lx (subst (λ (k : ℕ). IsPhase R T n s D p (k / s) t) (sym m) hp)
            ∙ ap (z24_laws.times (power p)) (pair-first_place n i j a x lx m ∙ sym (pair-first_place n i j (a + d) x lx m))
        | inr u ↦ elim (decide x j) [
          | inl m ↦
              phased-entry (candidate_vector n (Pair i j a)) t o x lt lx (subst (λ (k : ℕ). IsPhase R T n s D o (k / s) t) (sym m) ho)
              ∙ ap (z24_laws.times (power o)) (pair-second_place n i j a x lx u m) ∙ shifted-power p o a d e
              ∙ sym (ap (z24_laws.times (power p)) (pair-second_place n i j (a + d) x lx u m))
          | inr v ↦
              let k = some-phase t x lt lx in
              phased-entry (candidate_vector n (Pair i j a)) t k.0 x lt lx k.1
              ∙ ap (z24_laws.times (power k.0)) (pair-other_place n i j a x lx u v) ∙ times-nought z24_laws (power k.0)
              ∙ sym (ap (z24_laws.times (power p)) (pair-other_place n i j (a + d) x lx u v) ∙ times-nought z24_laws (power p))
        ]
      ]

  -- a shifted candidate fits where the one before does
  pub shifted-fits : (b c : Candidate) → IsShifted R T n s D b c → Fits z24_parts n (order_of q) D (candidate_vector n c) → Fits z24_parts n (order_of q) D (candidate_vector n b)
  shifted-fits b c f k =
      let i : ℕ = f.0 in
      let j : ℕ = f.1 in
      let a : ℕ = f.2 in
      let d : ℕ = f.3 in
      let m : IsShift R T n s D (i / s) (j / s) d = f.6 in
      let fits : Fits z24_parts n (order_of q) D (candidate_vector n (Pair i j (a + d))) = subst (λ (x : Candidate). Fits z24_parts n (order_of q) D (candidate_vector n x)) f.5 k in
      subst (λ (x : Candidate). Fits z24_parts n (order_of q) D (candidate_vector n x)) (sym f.4)
      (moved-fits z24_parts n (quotient_group q) (quotient-lawful q h) D rep (candidate_vector n (Pair i j a)) (candidate_vector n (Pair i j (a + d))) (power m.1) (power (24 - m.1)) m.0
      (translation_of_order q h m.0 m.3) (moved-entry i j a d m.0 m.1 m.2 m.3 m.5 m.6 m.7) (undone-power m.1 m.4) fits)

-- a member of a list none of which has a property
pub none-at : {A V : Type 0} (N : V → Type 0) (h : A → V) (xs : List A) (k b : ℕ) (x : A) → k ≤ length xs → b < k → NoneOf N (map h (take k xs)) → N (h (get_or xs b x))
none-at N h xs zero b x l m a = absurd (omega (arith, m))
none-at N h [] (suc k) b x l m a = absurd (omega arith)
none-at N h (y ∷ ys) (suc k) zero x l m a = a.0
none-at N h (y ∷ ys) (suc k) (suc b) x l m a = none-at N h ys k b x (omega arith) (omega arith) a.1

pub shift-mod : (p o : ℕ) → p < 24 → o < 24 → (p + (o + 24 - p) % 24) % 24 ≡ o % 24
shift-mod p o l m = grind arith
