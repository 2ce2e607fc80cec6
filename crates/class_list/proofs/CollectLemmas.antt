-- Collecting the entries of the places that are their own least.
use Rattle.std.proofs.Common.{◌≡◌, ◌↔◌, ◌<◌, ◌+◌, inl, inr, ℕ, suc, zero, Bool, true, false, List, [], ◌∷◌, ◌++◌, length, get_or, Some, None, slice_get, slice_index, refl, sym, ◌∙◌, ap, subst, arith, length-append}
use Rattle.std.specs.List.{IsDistinct}
use Rattle.std.proofs.lemmas.List.Elements.{All-nil, All-push, All-weaker, All-get_or, Contains-push, Contains-append_left}
use Rattle.std.proofs.lemmas.Map.Keys.{apart_from_distinct, IsDistinct-from_apart}
use Rattle.std.proofs.Math.ListN.{get_or-append}
use Rattle.std.proofs.Math.Seq.{get_or-append_seam}
use Rattle.cyclo24.specs.ExactField.{ExactField, Value}
use Rattle.lin_alg.specs.Action.{Action}
use Rattle.lin_alg.specs.CompareLaws.{equal-lines}
use Rattle.lin_alg.specs.Echelon.{EchelonView}
use Rattle.lin_alg.specs.Rows.{exact_rows}
use Rattle.fix_lattice.specs.FormLaws.{exact-length}
use Rattle.fix_lattice.specs.Lattice.{form_at, HoldsFixes}
use Rattle.fix_lattice.specs.Subspaces.{exact_forms}
use Rattle.fix_lattice.specs.Wide.{IsWideFixes}
use Rattle.class_list.specs.declared.order.Order.{Order}
use Rattle.class_list.specs.Collected.{Entry, HasPlace, AreCollected, IsPushed, same_entry}
use Rattle.class_list.specs.Entries.{IsEntryOf}
use Rattle.class_list.specs.Ranks.{rows_at}
use Rattle.class_list.specs.Wide.{IsWideStabiliser}
use Rattle.class_list.proofs.NumberLemmas.{last_or}

-- the rows at a place are those of the form there
pub rows-found : {A : Type 0} (es : List (EchelonView A)) (i : ℕ) (e : EchelonView A) → slice_get es i ≡ Some e → e.rows ≡ rows_at es i
rows-found [] i e h = let t : None ≡ Some e = h in absurd cc
rows-found (x ∷ es) zero e h = let t : Some x ≡ Some e = h in let s : x ≡ e = cc in ap (λ (z : EchelonView _). z.rows) (sym s)
rows-found (x ∷ es) (suc i) e h = rows-found es i e h

-- the exact rows at a place
pub form-rows : {A : Type 0} (f : ExactField) (value : A → Value f) (es : List (EchelonView A)) (i : ℕ) → form_at (exact_forms f.laws value es) i ≡ exact_rows f.laws value (rows_at es i)
form-rows f value [] i = refl
form-rows f value (e ∷ es) zero = refl
form-rows f value (e ∷ es) (suc i) = form-rows f value es i

-- a wide stabiliser of a held form is a wide cut of a fixed subspace
pub wide-fixes : {A : Type 0} (f : ExactField) (value : A → Value f) (act : Action) (es : List (EchelonView A)) → HoldsFixes f.laws act (exact_forms f.laws value es) →
    (i : ℕ) → i < length es → IsWideStabiliser f act (form_at (exact_forms f.laws value es) i) → IsWideFixes f act
wide-fixes f value act es holds i l w =
    let m : i < length (exact_forms f.laws value es) = subst (λ (n : ℕ). i < n) (sym (exact-length f.laws value es)) l in
    let h = holds.only i m in
    elim w.2 [
      | inl a ↦ (w.0, w.1, inl a)
      | inr a ↦ (w.0, w.1, inr (inr (h.0, form_at (exact_forms f.laws value es) i, h.1, h.2, inr a)))
    ]

false-or : (b : Bool) → (b ≡ true → ⊥) → b ≡ false
false-or true h = absurd (h refl)
false-or false h = refl

-- distinct elements and one that is like none of them
pub distinct-push : {K : Type 0} (t : K → K → Bool) (xs : List K) (x : K) → IsDistinct t xs → ((i : ℕ) (d : K) → i < length xs → t (get_or xs i d) x ≡ false) → IsDistinct t (xs ++ x ∷ [])
distinct-push {K} t xs x s h =
    IsDistinct-from_apart t (xs ++ x ∷ []) (λ i j d a b.
    let size : length (xs ++ x ∷ []) ≡ length xs + 1 = length-append xs (x ∷ []) in
    let left : get_or (xs ++ x ∷ []) i d ≡ get_or xs i d = get_or-append xs (x ∷ []) d i (omega (arith, size)) in
    elim (last_or j (length xs) (omega (arith, size))) [
      | inl l ↦
          let right : get_or (xs ++ x ∷ []) j d ≡ get_or xs j d = get_or-append xs (x ∷ []) d j l in
          (λ z. t (left z) (right z)) ∙ apart_from_distinct t xs i j d s a l
      | inr e ↦
          let right : get_or (xs ++ x ∷ []) j d ≡ x = ap (λ (k : ℕ). get_or (xs ++ x ∷ []) k d) e ∙ get_or-append_seam xs x [] d in
          (λ z. t (left z) (right z)) ∙ h i d (omega arith)
    ])

module _ {A : Type 0} (f : ExactField) (value : A → Value f) (E : A → A → Bool) (tells : (x y : A) → (E x y ≡ true) ↔ (value x ≡ value y)) (act : Action) (order : Order) (es : List (EchelonView A))
    (holds : HoldsFixes f.laws act (exact_forms f.laws value es)) (least : List ℕ) where
  -- entries of two places have other rows
  apart : (i j : ℕ) (a b : Entry A) → i < j → j < length es → IsEntryOf f.laws value act order (rows_at es i) a.0 a.1 → IsEntryOf f.laws value act order (rows_at es j) b.0 b.1 → same_entry E a b ≡ false
  apart i j a b l m x y =
      false-or (same_entry E a b) (λ t.
      let e : exact_rows f.laws value a.1.equations.rows ≡ exact_rows f.laws value b.1.equations.rows =
      equal-lines f value E tells a.1.equations.rows b.1.equations.rows (x.form.form.form x.form.whole).reduced (y.form.form.form y.form.whole).reduced t in
      let s : form_at (exact_forms f.laws value es) i ≡ form_at (exact_forms f.laws value es) j =
      form-rows f value es i ∙ ap (exact_rows f.laws value) (sym x.rows) ∙ e ∙ ap (exact_rows f.laws value) y.rows ∙ sym (form-rows f value es j) in
      holds.once i j l (subst (λ (n : ℕ). j < n) (sym (exact-length f.laws value es)) m) s)

  pub collected-none : AreCollected f.laws value E act order es least 0 []
  collected-none = record {
    from = All-nil (HasPlace f.laws value act order es least 0);
    each = λ i l e. absurd (omega arith);
    once = IsDistinct-from_apart (same_entry E) [] (λ i j d a b. absurd (omega arith));
  }

  place-more : (n : ℕ) (e : Entry A) → HasPlace f.laws value act order es least n e → HasPlace f.laws value act order es least (n + 1) e
  place-more n e p = record { place = p.place; below = let l : p.place < n = p.below in omega arith; own = p.own; made = p.made }

  pub collected-skip : (n : ℕ) (xs : List (Entry A)) → (slice_index least n ≡ n → ⊥) → AreCollected f.laws value E act order es least n xs → AreCollected f.laws value E act order es least (n + 1) xs
  collected-skip n xs h c = record {
    from = All-weaker (HasPlace f.laws value act order es least n) (HasPlace f.laws value act order es least (n + 1)) (place-more n) xs c.from;
    each = λ i l e. elim (last_or i n l) [
      | inl m ↦ c.each i m e
      | inr s ↦ absurd (h (subst (λ (k : ℕ). slice_index least k ≡ k) s e))
    ];
    once = c.once;
  }

  pub collected-push : (n : ℕ) (xs ys : List (Entry A)) → n < length es → slice_index least n ≡ n → IsPushed f.laws value act order (rows_at es n) xs ys → AreCollected f.laws value E act order es least n xs →
      AreCollected f.laws value E act order es least (n + 1) ys
  collected-push n xs ys l own p c =
      let x : Entry A = p.entry in
      let made : IsEntryOf f.laws value act order (rows_at es n) x.0 x.1 = p.made in
      let Q : Entry A → Type 0 = HasPlace f.laws value act order es least (n + 1) in
      let last : Q x = record { place = n; below = omega arith; own = own; made = made } in
      let r : AreCollected f.laws value E act order es least (n + 1) (xs ++ x ∷ []) = record {
        from = All-push Q xs x (All-weaker (HasPlace f.laws value act order es least n) Q (place-more n) xs c.from) last;
        each = λ i m e. elim (last_or i n m) [
          | inl k ↦ let t = c.each i k e in record { entry = t.entry; there = Contains-append_left xs (x ∷ []) t.entry t.there; made = t.made }
          | inr s ↦ record { entry = x; there = Contains-push xs x; made = subst (λ (k : ℕ). IsEntryOf f.laws value act order (rows_at es k) x.0 x.1) (sym s) made }
        ];
        once = distinct-push (same_entry E) xs x c.once (λ i d m.
            let t : HasPlace f.laws value act order es least n (get_or xs i d) = All-get_or (HasPlace f.laws value act order es least n) xs i d m c.from in
            apart t.place n (get_or xs i d) x t.below l t.made made);
      } in
      subst (AreCollected f.laws value E act order es least (n + 1)) (sym p.is) r
