use Rattle.std.proofs.Common.{◌≡◌, ◌↔◌, ℕ, ◌+◌, ◌<◌, ◌≤◌, inl, inr, refl, sym, ◌∙◌, ap, subst, Result, IfOk, OnErr, IsTrue, arith, below_more, List, length, set, length-set}
use Rattle.std.specs.Prelude.{Ok, Err, IsErr}
use Rattle.algebra.specs.NumberedGroup.{Group}
use Rattle.cyclo24.specs.ExactField.{ExactField, Value}
use Rattle.cyclo24.specs.ExactK24.{k24_laws}
use Rattle.cyclo24.specs.ExactZ24.{ExactZ24, z24, z24_laws, real_part, imag_part, is_wide_real_part, is_wide_imag_part}
use Rattle.lin_alg.specs.SpanLaws.{funext}
use Rattle.lin_alg.specs.RowLaws.{vector-past}
use Rattle.lin_alg.specs.Rows.{vector}
use Rattle.lin_alg.specs.Matrices.{apply}
use Rattle.lin_alg.specs.Matrix.{IsWideDot}
use Rattle.real_form.specs.Parts.{orbit}
use Rattle.real_form.proofs.PartsLaws.{place, orbit-re, orbit-im, orbit-past}
use Rattle.real_form.specs.Complexes.{z24_parts}
use Rattle.real_form.specs.Wide.{IsWideImage}
use Rattle.real_form.proofs.VectorLemmas.{vector-set_same, vector-set_other}

pub ok-map : {A E : Type 0} (r : Result A E) (P Q : A → Type 0) → ((x : A) → P x → Q x) → IfOk r P → IfOk r Q
ok-map (Ok x) P Q t h = t x h
ok-map (Err e) P Q t h = tt

pub err-by : {A E : Type 0} (r : Result A E) (W P : Type 0) → IsErr r ↔ W → (W → P) → OnErr r P
err-by (Ok x) W P h t = tt
err-by (Err e) W P h t = t (h.0 refl)

pub err-map : {A E : Type 0} (r : Result A E) (P Q : Type 0) → (P → Q) → OnErr r P → OnErr r Q
err-map (Ok x) P Q t h = tt
err-map (Err e) P Q t h = t h

module _ (n : ℕ) (D : ℕ → ℕ → ℕ → ExactZ24) (w : ℕ → ExactZ24) (q : ℕ) where
  group : Group
  group = record { order = 0; product = λ a b. 0; inverse = λ a. 0 }

  pub part-re : (i : ℕ) → i < n → (x : ExactZ24) → x ≡ apply z24_laws n (D q) w i → real_part x ≡ orbit z24_parts n D w q i
  part-re i l x e = ap real_part e ∙ sym (orbit-re z24_parts n group D w q i l)

  pub part-im : (i : ℕ) → i < n → (x : ExactZ24) → x ≡ apply z24_laws n (D q) w i → imag_part x ≡ orbit z24_parts n D w q (n + i)
  part-im i l x e = ap imag_part e ∙ sym (orbit-im z24_parts n group D w q i l)

  pub part-past : (j : ℕ) → n + n ≤ j → orbit z24_parts n D w q j ≡ k24_laws.nought
  part-past j l = orbit-past z24_parts n group D q w j l

  pub wide-dot : (i : ℕ) → i < n → IsWideDot z24 n (D q i) w → IsWideImage n D q w
  wide-dot i l h = (i, l, inl h)

  pub wide-re : (i : ℕ) → i < n → (x : ExactZ24) → x ≡ apply z24_laws n (D q) w i → IsTrue (is_wide_real_part x) → IsWideImage n D q w
  wide-re i l x e h = (i, l, inr (inl (subst (λ (y : ExactZ24). IsTrue (is_wide_real_part y)) e h)))

  pub wide-im : (i : ℕ) → i < n → (x : ExactZ24) → x ≡ apply z24_laws n (D q) w i → IsTrue (is_wide_imag_part x) → IsWideImage n D q w
  wide-im i l x e h = (i, l, inr (inr (subst (λ (y : ExactZ24). IsTrue (is_wide_imag_part y)) e h)))

module _ {A : Type 0} (f : ExactField) (value : A → Value f) where
  -- the places k and n + k for k below i are those of the target
  pub record IsFilled (t : ℕ → Value f) (n : ℕ) (row : List A) (i : ℕ) : Type 0 where
    pub first : (k : ℕ) → k < i → vector f.laws value row k ≡ t k
    pub second : (k : ℕ) → k < i → vector f.laws value row (n + k) ≡ t (n + k)

  pub filled-start : (t : ℕ → Value f) (n : ℕ) (row : List A) → IsFilled t n row 0
  filled-start t n row = record { first = λ k l. absurd (omega (arith, l)); second = λ k l. absurd (omega (arith, l)) }

  pub filled-next : (t : ℕ → Value f) (n : ℕ) (row : List A) (i : ℕ) (x y : A) → length row ≡ n + n → i < n → value x ≡ t i → value y ≡ t (n + i) →
      IsFilled t n row i → IsFilled t n (set (set row i x) (n + i) y) (i + 1)
  filled-next t n row i x y e l ex ey h =
      let one : List A = set row i x in
      let two : List A = set one (n + i) y in
      let len : length one ≡ length row = rw length-set refl in
      let l1 : i < length row = omega (arith, e, l) in
      let l2 : n + i < length one = omega (arith, e, l, len) in
      let apart : (k : ℕ) → k < n → k ≡ n + i → ⊥ = λ k m d. absurd (omega (arith, m, d)) in
      let old : (k : ℕ) → (k ≡ i → ⊥) → (k ≡ n + i → ⊥) → vector f.laws value two k ≡ vector f.laws value row k =
      λ k a b. vector-set_other f value one (n + i) k y b ∙ vector-set_other f value row i k x a in
      record {
        first = below_more (λ k. vector f.laws value two k ≡ t k) i
            (λ k m. old k (λ d. absurd (omega (arith, m, d))) (apart k (omega (arith, m, l))) ∙ h.first k m)
            (vector-set_other f value one (n + i) i y (apart i l) ∙ vector-set_same f value row i x l1 ∙ ex);
        second = below_more (λ k. vector f.laws value two (n + k) ≡ t (n + k)) i
            (λ k m. old (n + k) (λ d. absurd (omega (arith, m, d, l))) (λ d. absurd (omega (arith, m, d))) ∙ h.second k m)
            (vector-set_same f value one (n + i) y l2 ∙ ey);
      }

  pub filled-end : (t : ℕ → Value f) (n : ℕ) (row : List A) (i : ℕ) → length row ≡ n + n → n ≤ i → ((j : ℕ) → n + n ≤ j → t j ≡ f.laws.nought) → IsFilled t n row i → vector f.laws value row ≡ t
  filled-end t n row i e l past h =
      funext (λ j. elim (place n j) [
        | inl m ↦ h.first j (omega (arith, m, l))
        | inr (inl k) ↦ subst (λ (z : ℕ). vector f.laws value row z ≡ t z) (sym k.2) (let b = k.1 in h.second k.0 (omega (arith, b, l)))
        | inr (inr m) ↦ vector-past f value row j (omega (arith, e, m)) ∙ sym (past j m)
      ])
