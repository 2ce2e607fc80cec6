-- The place of a form among the held ones.
use Rattle.std.proofs.Common.{◌≡◌, ◌↔◌, ℕ, ◌<◌, ◌≤◌, Bool, true, false, cond, ltb, List, [], ◌∷◌, length, get_or, slice_get, Some, None, refl, sym, ◌∙◌, subst, arith}
use Rattle.std.specs.List.{position, position_or_len}
use Rattle.std.proofs.lemmas.Bool.{ltb-false}
use Rattle.std.proofs.lemmas.List.Sums.{fails_before_first}
use Rattle.std.proofs.lemmas.List.Quantifiers.{position-Some}
use Rattle.std.proofs.lemmas.Option.{slice_get-get_or}
use Rattle.cyclo24.specs.ExactField.{ExactField, Value}
use Rattle.algebra.specs.NumberedGroup.{AllBelow}
use Rattle.lin_alg.specs.Action.{Action, IsAction}
use Rattle.lin_alg.specs.CompareLaws.{lines-equal, equal-lines}
use Rattle.lin_alg.specs.Echelon.{EchelonView}
use Rattle.lin_alg.specs.Fixed.{Fix}
use Rattle.lin_alg.specs.FormLaws.{form-unique}
use Rattle.lin_alg.specs.Images.{moves_of}
use Rattle.lin_alg.specs.ImageLaws.{are-moves, fixes-fixed}
use Rattle.lin_alg.specs.Moves.{conjugate}
use Rattle.lin_alg.specs.MoveLaws.{fixes-conjugate, conjugate-below}
use Rattle.lin_alg.specs.Reduced.{IsForm}
use Rattle.lin_alg.specs.Rows.{exact_rows, HaveWidth}
use Rattle.fix_lattice.specs.FormLaws.{whole-form, whole-at, exact-at}
use Rattle.fix_lattice.specs.Lattice.{form_at, HoldsFixes}
use Rattle.fix_lattice.specs.LatticeLaws.{fix-vanishes}
use Rattle.fix_lattice.specs.Subspaces.{AreWholeForms, IsWholeForm, exact_forms, same_rows}
use Rattle.fix_lattice.specs.Classes.{IsImageForm}

-- each element of the list, conjugated
abbrev conjugates : (ℕ → ℕ) → List ℕ → List ℕ
conjugates to [] = []
conjugates to (a ∷ h) = to a ∷ conjugates to h

conjugates-below : (n : ℕ) (to : ℕ → ℕ) → ((a : ℕ) → a < n → to a < n) → (h : List ℕ) → AllBelow n h → AllBelow n (conjugates to h)
conjugates-below n to b [] a = tt
conjugates-below n to b (x ∷ h) a = (b x a.0, conjugates-below n to b h a.1)

module _ (f : ExactField) (act : Action) (law : IsAction f.laws act) where
  -- what the conjugates fix is the image of what the elements fix
  fixed-image : (q : ℕ) → q < act.group.order → (h : List ℕ) → AllBelow act.group.order h → (v : ℕ → Value f) →
      Fix f.laws act (conjugates (conjugate (moves_of f.laws act) q) h) v ↔ Fix f.laws act h ((moves_of f.laws act).move (act.group.inverse q) v)
  fixed-image q l [] b v = (λ a. tt, λ a. tt)
  fixed-image q l (x ∷ h) b v =
      let more = fixed-image q l h b.1 v in
      let g = moves_of f.laws act in
      let both = fixes-conjugate g (are-moves f act law) q x l b.0 v in
      let w : ℕ → Value f = g.move (act.group.inverse q) v in (
        λ a. ((fixes-fixed f act x w).0 (both.1 ((fixes-fixed f act (conjugate g q x) v).1 a.0)), more.0 a.1),
        λ a. ((fixes-fixed f act (conjugate g q x) v).0 (both.0 ((fixes-fixed f act x w).1 a.0)), more.1 a.1),
      )

  -- the image of a held space is held
  pub image-held : (forms : List (List (ℕ × (ℕ → Value f)))) → HoldsFixes f.laws act forms → (q i : ℕ) → q < act.group.order → i < length forms →
      (k : ℕ) × (k < length forms) × IsImageForm f.laws act q (form_at forms i) (form_at forms k)
  image-held forms holds q i l m =
      let a = holds.only i m in
      let g = moves_of f.laws act in
      let b = conjugates-below act.group.order (conjugate g q) (λ x n. conjugate-below g (are-moves f act law) q x l n) a.0 a.1 in
      let k = holds.each (conjugates (conjugate g q) a.0) b in (
        k.0,
        k.1,
        λ v.
            let at_k = fix-vanishes f act (conjugates (conjugate g q) a.0) (form_at forms k.0) k.2 v in
            let at_i = fix-vanishes f act a.0 (form_at forms i) a.2 (g.move (act.group.inverse q) v) in
            let both = fixed-image q l a.0 a.1 v in
            (λ h. at_i.1 (both.0 (at_k.0 h)), λ h. at_k.1 (both.1 (at_i.0 h))),
      )

  -- a form of the image is the held one
  pub image-is : (forms : List (List (ℕ × (ℕ → Value f)))) → HoldsFixes f.laws act forms → (q i : ℕ) → q < act.group.order → i < length forms → (x : List (ℕ × (ℕ → Value f))) → IsForm f.laws act.dim x →
      IsImageForm f.laws act q (form_at forms i) x → (k : ℕ) × (k < length forms) × (x ≡ form_at forms k)
  image-is forms holds q i l m x r e =
      let k = image-held forms holds q i l m in
      let s = (holds.only k.0 k.1).2.form in
      (k.0, k.1, form-unique f.laws act.dim x (form_at forms k.0) r s (λ v. (λ h. (k.2 v).1 ((e v).0 h), λ h. (e v).1 ((k.2 v).0 h))))

cond-none : (t : Bool) (a : ℕ) → cond t (Some a) None ≡ None → t ≡ false
cond-none true a e = let x : Some a ≡ None = e in absurd cc
cond-none false a e = refl

none-passes : {X : Type 0} (p : X → Bool) (xs : List X) (i : ℕ) (d : X) → position p xs ≡ None → i < length xs → p (get_or xs i d) ≡ true → ⊥
none-passes p xs i d e l h =
    let past : length xs ≤ position_or_len p xs = ltb-false (position_or_len p xs) (length xs) (cond-none (ltb (position_or_len p xs) (length xs)) (position_or_len p xs) e) in
    let n : p (get_or xs i d) ≡ false = fails_before_first p xs i d (omega arith) in
    let t : true ≡ false = sym h ∙ n in cc

module _ {A : Type 0} (f : ExactField) (value : A → Value f) (E : A → A → Bool) (tells : (x y : A) → (E x y ≡ true) ↔ (value x ≡ value y)) (w : ℕ) (es : List (EchelonView A)) (whole : AreWholeForms f.laws value w es) (key : EchelonView A) (own : IsWholeForm f.laws value w key) where
  at : (i : ℕ) → i < length es → slice_get es i ≡ Some (get_or es i key)
  at i l = slice_get-get_or es i key l

  width-at : (e : EchelonView A) → IsWholeForm f.laws value w e → HaveWidth w e.rows
  width-at e t = subst (λ (n : ℕ). HaveWidth n e.rows) t.width t.form.shape

  -- the place that is found has the same exact rows
  pub place-same : (i : ℕ) → position (same_rows E key) es ≡ Some i → (i < length es) × (form_at (exact_forms f.laws value es) i ≡ exact_rows f.laws value key.rows)
  place-same i e =
      let p = position-Some (same_rows E key) es i key e in
      let t = whole-at f.laws value w es i (get_or es i key) whole (at i p.0) in (
        p.0,
        exact-at f.laws value es i (get_or es i key) (at i p.0)
            ∙ sym (equal-lines f value E tells key.rows (get_or es i key).rows (whole-form f.laws value w key own).reduced (whole-form f.laws value w (get_or es i key) t).reduced p.1),
      )

  -- a held form with the same exact rows is found
  pub place-found : (i : ℕ) → i < length es → exact_rows f.laws value key.rows ≡ form_at (exact_forms f.laws value es) i → position (same_rows E key) es ≡ None → ⊥
  place-found i l e n =
      let t = whole-at f.laws value w es i (get_or es i key) whole (at i l) in
      let same : same_rows E key (get_or es i key) ≡ true =
      lines-equal f value E tells w key.rows (get_or es i key).rows (width-at key own) (width-at (get_or es i key) t) (e ∙ exact-at f.laws value es i (get_or es i key) (at i l)) in
      none-passes (same_rows E key) es i key n l same
