-- Held forms of a program and their exact rows.
use Rattle.std.proofs.Common.{◌≡◌, ◌↔◌, ℕ, suc, zero, ◌<◌, Bool, true, false, refl, sym, ◌∙◌, ap, subst, List, [], ◌∷◌, ◌++◌, arith, length, get_or, slice_get, Some, Result, Ok, Err, if◌then◌else◌}
use Rattle.std.specs.List.{IsDistinct, AllByRecursion, list_any, position}
use Rattle.std.proofs.lemmas.List.Quantifiers.{position-Some}
use Rattle.std.proofs.lemmas.Option.{slice_get-get_or}
use Rattle.cyclo24.specs.ExactField.{ExactField, Value}
use Rattle.indexmap.specs.IndexSet.{insert_key}
use Rattle.lin_alg.specs.CompareLaws.{lines-equal, equal-lines}
use Rattle.lin_alg.specs.Echelon.{EchelonView}
use Rattle.lin_alg.specs.Rows.{exact_rows, HaveWidth}
use Rattle.fix_lattice.specs.Lattice.{form_at}
use Rattle.fix_lattice.specs.Held.{IsPut}
use Rattle.fix_lattice.specs.FormLaws.{exact-length, exact-at, got-inside, whole-at}
use Rattle.fix_lattice.proofs.ListLemmas.{get_or-last, get_or-front, length-last}
use Rattle.fix_lattice.specs.Subspaces.{IsWholeForm, AreWholeForms, AreHeld, exact_forms, same_rows}

abbrev error_in : {T E : Type 0} → E → Result T E → E
error_in d (Ok x) = d
error_in d (Err e) = e

-- one error is the same in results of two types
pub same-error : {T U E : Type 0} (a b : E) → ◌≡◌ {A = Result T E} (Err a) (Err b) → ◌≡◌ {A = Result U E} (Err a) (Err b)
same-error {T} {U} {E} a b h = let e : a ≡ b = ap (error_in {T = T} {E = E} a) h in ap Err e

module _ {A : Type 0} (f : ExactField) (value : A → Value f) where
  pub exact-last : (es : List (EchelonView A)) (e : EchelonView A) → exact_forms f.laws value (es ++ e ∷ []) ≡ exact_forms f.laws value es ++ exact_rows f.laws value e.rows ∷ []
  exact-last [] e = refl
  exact-last (x ∷ es) e = ap (λ z. exact_rows f.laws value x.rows ∷ z) (exact-last es e)

  whole-last : (w : ℕ) (es : List (EchelonView A)) (e : EchelonView A) → AreWholeForms f.laws value w es → IsWholeForm f.laws value w e → AreWholeForms f.laws value w (es ++ e ∷ [])
  whole-last w [] e a b = (b, tt)
  whole-last w (x ∷ es) e a b = (a.0, whole-last w es e a.1 b)

  pub whole-insert : (E : EchelonView A → EchelonView A → Bool) (w : ℕ) (es : List (EchelonView A)) (e : EchelonView A) → AreWholeForms f.laws value w es → IsWholeForm f.laws value w e →
      AreWholeForms f.laws value w (insert_key E es e)
  whole-insert E w es e a b =
      elim (list_any (E e) es) as (λ t. AreWholeForms f.laws value w (if t then es else es ++ e ∷ [])) [
        | true ↦ a
        | false ↦ whole-last w es e a b
      ]

  module _ (E : A → A → Bool) (tells : (x y : A) → (E x y ≡ true) ↔ (value x ≡ value y)) where
    same-exact : (w : ℕ) (a b : EchelonView A) → IsWholeForm f.laws value w a → IsWholeForm f.laws value w b → same_rows E a b ≡ true → exact_rows f.laws value a.rows ≡ exact_rows f.laws value b.rows
    same-exact w a b x y h = equal-lines f value E tells a.rows b.rows (x.form.form x.whole).reduced (y.form.form y.whole).reduced h

    exact-same : (w : ℕ) (a b : EchelonView A) → IsWholeForm f.laws value w a → IsWholeForm f.laws value w b → exact_rows f.laws value a.rows ≡ exact_rows f.laws value b.rows → same_rows E a b ≡ true
    exact-same w a b x y h =
        lines-equal f value E tells w a.rows b.rows (subst (λ (n : ℕ). HaveWidth n a.rows) x.width x.form.shape) (subst (λ (n : ℕ). HaveWidth n b.rows) y.width y.form.shape) h

    other-at : (w : ℕ) (e : EchelonView A) (es : List (EchelonView A)) → IsWholeForm f.laws value w e → AreWholeForms f.laws value w es →
        AllByRecursion (λ y. same_rows E e y ≡ false) es → (j : ℕ) → j < length es → exact_rows f.laws value e.rows ≡ form_at (exact_forms f.laws value es) j → ⊥
    other-at w e [] x a d j l h = absurd (omega arith)
    other-at w e (y ∷ es) x a d zero l h = let t : true ≡ false = sym (exact-same w e y x a.0 h) ∙ d.0 in absurd cc
    other-at w e (y ∷ es) x a d (suc j) l h = other-at w e es x a.1 d.1 j (omega arith) h

    -- no form is held
    pub held-none : (w : ℕ) → AreHeld f.laws value E w []
    unfolding IsDistinct
    held-none w = record { whole = tt; once = tt }

    -- held forms have different exact rows
    pub held-once : (w : ℕ) (es : List (EchelonView A)) → AreWholeForms f.laws value w es → IsDistinct (same_rows E) es →
        (i j : ℕ) → i < j → j < length (exact_forms f.laws value es) → form_at (exact_forms f.laws value es) i ≡ form_at (exact_forms f.laws value es) j → ⊥
    unfolding IsDistinct
    held-once w [] a d i j g l h = absurd (omega arith)
    held-once w (e ∷ es) a d zero zero g l h = absurd (omega arith)
    held-once w (e ∷ es) a d zero (suc j) g l h = let n = exact-length f.laws value es in other-at w e es a.0 a.1 d.0 j (omega arith) h
    held-once w (e ∷ es) a d (suc i) zero g l h = absurd (omega arith)
    held-once w (e ∷ es) a d (suc i) (suc j) g l h = held-once w es a.1 d.1 i j (omega arith) (omega arith) h

    -- a form is found at its place
    pub found-put : (w : ℕ) (es : List (EchelonView A)) (e : EchelonView A) (p : ℕ) → AreWholeForms f.laws value w es → IsWholeForm f.laws value w e →
        position (same_rows E e) es ≡ Some p → IsPut (exact_forms f.laws value es) (exact_rows f.laws value e.rows) (exact_forms f.laws value es) p
    found-put w es e p a b at =
        let k : EchelonView A = get_or es p e in
        let t = position-Some (same_rows E e) es p e at in
        let inside = t.0 in
        let got : slice_get es p ≡ Some k = slice_get-get_or es p e inside in
        let whole : IsWholeForm f.laws value w k = whole-at f.laws value w es p k a got in
        let n = exact-length f.laws value es in
        record {
          grown = record { longer = omega arith; first = λ i m. refl };
          short = omega arith;
          last = λ i m m'. absurd (omega arith);
          inside = omega arith;
          there = exact-at f.laws value es p k got ∙ sym (same-exact w e k b whole t.1);
        }

    -- an inserted form stands at its place
    pub insert-put : (w : ℕ) (es : List (EchelonView A)) (e k : EchelonView A) (p : ℕ) → AreWholeForms f.laws value w es → IsWholeForm f.laws value w e →
        slice_get (insert_key (same_rows E) es e) p ≡ Some k → same_rows E e k ≡ true →
        IsPut (exact_forms f.laws value es) (exact_rows f.laws value e.rows) (exact_forms f.laws value (insert_key (same_rows E) es e)) p
    insert-put w es e k p a b at same =
        let new : List (EchelonView A) = insert_key (same_rows E) es e in
        let whole : IsWholeForm f.laws value w k = whole-at f.laws value w new p k (whole-insert (same_rows E) w es e a b) at in
        let there : form_at (exact_forms f.laws value new) p ≡ exact_rows f.laws value e.rows = exact-at f.laws value new p k at ∙ sym (same-exact w e k b whole same) in
        let inside : p < length (exact_forms f.laws value new) = let l = got-inside f.laws value new p k at in let n = exact-length f.laws value new in omega arith in
        (elim (list_any (same_rows E e) es) as (λ t. p < length (exact_forms f.laws value (if t then es else es ++ e ∷ [])) →
        form_at (exact_forms f.laws value (if t then es else es ++ e ∷ [])) p ≡ exact_rows f.laws value e.rows →
        IsPut (exact_forms f.laws value es) (exact_rows f.laws value e.rows) (exact_forms f.laws value (if t then es else es ++ e ∷ [])) p) [
          | true ↦ λ l h. record { grown = record { longer = omega arith; first = λ i m. refl }; short = omega arith; last = λ i m n. absurd (omega arith); inside = l; there = h }
          | false ↦ λ l h.
              let old : List (List (ℕ × (ℕ → Value f))) = exact_forms f.laws value es in
              let x : List (ℕ × (ℕ → Value f)) = exact_rows f.laws value e.rows in
              let n = length-last old x in
              subst (λ (z : List (List (ℕ × (ℕ → Value f)))). IsPut old x z p) (sym (exact-last es e)) (record {
                grown = record { longer = omega arith; first = λ i m. get_or-front old x [] i m };
                short = omega arith;
                last = λ i m m'. let s : i ≡ length old = omega arith in subst (λ (z : ℕ). form_at (old ++ x ∷ []) z ≡ x) (sym s) (get_or-last old x []);
                inside = subst (λ (z : List (List (ℕ × (ℕ → Value f)))). p < length z) (exact-last es e) l;
                there = subst (λ (z : List (List (ℕ × (ℕ → Value f)))). form_at z p ≡ x) (exact-last es e) h;
              })
        ]) inside there
