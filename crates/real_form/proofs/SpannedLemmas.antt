use Rattle.std.proofs.Common.{◌≡◌, ℕ, suc, ◌+◌, ◌<◌, ◌≤◌, true, refl, sym, ◌∙◌, ap, subst, arith, add-one, List, [], ◌∷◌, ◌++◌, length, take, drop, length-take, length-append, length-drop}
use Rattle.cyclo24.specs.FieldOn.{FieldOn}
use Rattle.cyclo24.specs.ExactField.{ExactField, Value}
use Rattle.lin_alg.specs.Spans.{row_vectors, less, IsInSpan, AreSame}
use Rattle.lin_alg.specs.Reduced.{IsForm}
use Rattle.lin_alg.specs.SpanLaws.{funext, in_span-nought, in_span-past, in_span-head}
use Rattle.lin_alg.specs.Rows.{exact_rows}
use Rattle.lin_alg.specs.Insertion.{IsWideInsert}
use Rattle.lin_alg.specs.Echelon.{EchelonView, IsEchelon, IsSpanned}
use Rattle.lin_alg.specs.Solving.{plain_rows, IsWideIndependent}
use Rattle.real_form.specs.Orbits.{IsFormOf, HasDimension}
use Rattle.real_form.proofs.OrbitLaws.{passed, other-length, span-skip}
use Rattle.real_form.specs.Spanned.{HoldsSpan, HoldsPart}

-- one more row on both sides
same-more : {K : Type 0} (f : FieldOn K) (rs ss : List (ℕ → K)) (x : ℕ → K) → AreSame (IsInSpan f rs) (IsInSpan f ss) → AreSame (IsInSpan f (x ∷ rs)) (IsInSpan f (x ∷ ss))
same-more f rs ss x e v = (λ h. (h.0, (e (less f v h.0 x)).0 h.1), λ h. (h.0, (e (less f v h.0 x)).1 h.1))

module _ {A : Type 0} (f : ExactField) (value : A → Value f) (w : ℕ) (a : ℕ → ℕ → Value f) where
  -- the empty form
  pub held-start : (form : EchelonView A) → form.width ≡ w → form.whole ≡ true → form.rows ≡ [] → IsEchelon f.laws value form → HoldsSpan f.laws value w a 0 form
  held-start form ew eh er shape = record {
    width = ew;
    whole = eh;
    shape = shape;
    span =
        let none : AreSame (IsInSpan f.laws []) (IsInSpan f.laws []) = λ v. (λ h. h, λ h. h) in
        subst (λ (rs : List (ℕ × List A)). AreSame (IsInSpan f.laws (row_vectors (exact_rows f.laws value rs))) (IsInSpan f.laws (plain_rows a 0))) (sym er) none;
  }

  pub held-next : (q : ℕ) (old new : EchelonView A) (x : ℕ → Value f) → HoldsSpan f.laws value w a q old → x ≡ a q → new.width ≡ old.width → new.whole ≡ true → IsEchelon f.laws value new →
      AreSame (IsSpanned f.laws value new) (IsInSpan f.laws (x ∷ row_vectors (exact_rows f.laws value old.rows))) → HoldsSpan f.laws value w a (q + 1) new
  held-next q old new x h e ew eh form span = record {
    width = ew ∙ h.width;
    whole = eh;
    shape = form;
    span =
        let both : AreSame (IsInSpan f.laws (x ∷ row_vectors (exact_rows f.laws value old.rows))) (IsInSpan f.laws (plain_rows a (suc q))) =
        subst (λ (y : ℕ → Value f). AreSame (IsInSpan f.laws (x ∷ row_vectors (exact_rows f.laws value old.rows))) (IsInSpan f.laws (y ∷ plain_rows a q))) e
        (same-more f.laws (row_vectors (exact_rows f.laws value old.rows)) (plain_rows a q) x h.span) in
        let all : AreSame (IsSpanned f.laws value new) (IsInSpan f.laws (plain_rows a (suc q))) = λ v. (λ k. (both v).0 ((span v).0 k), λ k. (span v).1 ((both v).1 k)) in
        subst (λ (n : ℕ). AreSame (IsSpanned f.laws value new) (IsInSpan f.laws (plain_rows a n))) (sym (add-one q)) all;
  }

  pub held-member : (q : ℕ) (old new : EchelonView A) (x : ℕ → Value f) → HoldsSpan f.laws value w a q old → x ≡ a q → new.rows ≡ old.rows →
      AreSame (IsSpanned f.laws value new) (IsInSpan f.laws (x ∷ row_vectors (exact_rows f.laws value old.rows))) → IsInSpan f.laws (plain_rows a q) (a q)
  held-member q old new x h e same span =
      let in_new : IsInSpan f.laws (row_vectors (exact_rows f.laws value new.rows)) x = (span x).1 (in_span-head f.laws x (row_vectors (exact_rows f.laws value old.rows))) in
      let in_old : IsInSpan f.laws (row_vectors (exact_rows f.laws value old.rows)) x = subst (λ (rs : List (ℕ × List A)). IsInSpan f.laws (row_vectors (exact_rows f.laws value rs)) x) same in_new in
      subst (λ (y : ℕ → Value f). IsInSpan f.laws (plain_rows a q) y) e ((h.span x).0 in_old)

  pub held-wide : (q m : ℕ) (old : EchelonView A) (x : ℕ → Value f) → HoldsSpan f.laws value w a q old → x ≡ a q → q < m → IsWideInsert f (exact_rows f.laws value old.rows) x → IsWideIndependent f m a
  held-wide q m old x h e l k =
      (q, l, exact_rows f.laws value old.rows, (h.shape.form h.whole).reduced, h.span, subst (λ (y : ℕ → Value f). IsWideInsert f (exact_rows f.laws value old.rows) y) e k)

  pub held-form : (k : ℕ) (form : EchelonView A) → HoldsSpan f.laws value w a k form → IsFormOf f.laws w k a (exact_rows f.laws value form.rows)
  held-form k form h = record {
    form = subst (λ (n : ℕ). IsForm f.laws n (exact_rows f.laws value form.rows)) h.width (h.shape.form h.whole);
    span = h.span;
  }

  length-exact : (rs : List (ℕ × List A)) → length (exact_rows f.laws value rs) ≡ length rs
  length-exact [] = refl
  length-exact (r ∷ rs) = ap suc (length-exact rs)

  -- a form of the first k of m rows with more than n rows
  pub held-passed : (k m n : ℕ) (form : EchelonView A) → HoldsSpan f.laws value w a k form → k ≤ m → n < length form.rows → HasDimension f.laws w m a n → ⊥
  held-passed k m n form h l more =
      let e = length-exact form.rows in
      passed f.laws w k m n a (exact_rows f.laws value form.rows) (held-form k form h) l (omega (arith, more, e))

  pub held-other : (m n : ℕ) (form : EchelonView A) → HoldsSpan f.laws value w a m form → (length form.rows ≡ n → ⊥) → HasDimension f.laws w m a n → ⊥
  held-other m n form h other = other-length f.laws w m n a (exact_rows f.laws value form.rows) (held-form m form h) (λ e. other (sym (length-exact form.rows) ∙ e))

  pub held-length : (n : ℕ) (form : EchelonView A) → length form.rows ≡ n → length (exact_rows f.laws value form.rows) ≡ n
  held-length n form e = length-exact form.rows ∙ e

  -- rows that are members may be left out
  pub held-skip : (k m : ℕ) (form : EchelonView A) → HoldsSpan f.laws value w a k form → k ≤ m → ((i : ℕ) → k ≤ i → i < m → IsInSpan f.laws (plain_rows a k) (a i)) → HoldsSpan f.laws value w a m form
  held-skip k m form h l members =
      let both = span-skip f.laws a k m l members in
      record { width = h.width; whole = h.whole; shape = h.shape; span = λ v. (λ t. (both v).0 ((h.span v).0 t), λ t. (h.span v).1 ((both v).1 t)) }

-- forms of vectors of the span of the first k rows
module _ {A : Type 0} (f : ExactField) (value : A → Value f) (w : ℕ) (a : ℕ → ℕ → Value f) where
  pub part-empty : (k : ℕ) (form : EchelonView A) → form.width ≡ w → form.whole ≡ true → form.rows ≡ [] → HoldsPart f.laws value w a k form
  part-empty k form ew eh er = record {
    width = ew;
    whole = eh;
    within = λ v h.
        let none : IsInSpan f.laws [] v = subst (λ (rs : List (ℕ × List A)). IsInSpan f.laws (row_vectors (exact_rows f.laws value rs)) v) er h in
        subst (λ (u : ℕ → Value f). IsInSpan f.laws (plain_rows a k) u) (sym (funext none)) (in_span-nought f.laws (plain_rows a k));
  }

  pub part-skip : (k : ℕ) (form : EchelonView A) → HoldsPart f.laws value w a k form → HoldsPart f.laws value w a (k + 1) form
  part-skip k form h = record {
    width = h.width;
    whole = h.whole;
    within = λ v t. subst (λ (n : ℕ). IsInSpan f.laws (plain_rows a n) v) (sym (add-one k)) (in_span-past f.laws (a k) (plain_rows a k) v (h.within v t));
  }

  pub part-next : (k : ℕ) (old new : EchelonView A) → HoldsPart f.laws value w a k old → new.width ≡ w → new.whole ≡ true →
      AreSame (IsSpanned f.laws value new) (IsInSpan f.laws (a k ∷ row_vectors (exact_rows f.laws value old.rows))) → HoldsPart f.laws value w a (k + 1) new
  part-next k old new h ew eh span = record {
    width = ew;
    whole = eh;
    within = λ v t.
        let one = (span v).0 t in
        let all : IsInSpan f.laws (plain_rows a (suc k)) v = (one.0, h.within (less f.laws v one.0 (a k)) one.1) in
        subst (λ (n : ℕ). IsInSpan f.laws (plain_rows a n) v) (sym (add-one k)) all;
  }

  pub part-member : (k : ℕ) (old new : EchelonView A) → HoldsPart f.laws value w a k old → new.rows ≡ old.rows →
      AreSame (IsSpanned f.laws value new) (IsInSpan f.laws (a k ∷ row_vectors (exact_rows f.laws value old.rows))) → IsInSpan f.laws (plain_rows a k) (a k)
  part-member k old new h same span =
      let in_new : IsInSpan f.laws (row_vectors (exact_rows f.laws value new.rows)) (a k) = (span (a k)).1 (in_span-head f.laws (a k) (row_vectors (exact_rows f.laws value old.rows))) in
      h.within (a k) (subst (λ (rs : List (ℕ × List A)). IsInSpan f.laws (row_vectors (exact_rows f.laws value rs)) (a k)) same in_new)

-- a slice of a whole list that was written
pub written-length : {A : Type 0} (items new : List A) (len m : ℕ) → length new ≡ length items → len ≡ length items → length items ≡ m → length (take len (new ++ drop (length new) items)) ≡ m
written-length {A} items new len m e l k = rw (length-take, length-append {A = A}, length-drop) (omega (arith, e, l, k))
