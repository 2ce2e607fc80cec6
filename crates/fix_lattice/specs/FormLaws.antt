-- What held forms and their exact rows obey.
--
-- whole-form: the exact rows of a whole form are a form
-- exact-length, exact-at: the exact rows of each, in order
-- got-inside, whole-at: a form at a place
use Rattle.std.proofs.Common.{◌≡◌, ℕ, suc, zero, ◌<◌, subst, ap, refl, List, [], ◌∷◌, arith, length, slice_get, Some, None}
use Rattle.cyclo24.specs.FieldOn.{FieldOn}
use Rattle.lin_alg.specs.Echelon.{EchelonView}
use Rattle.lin_alg.specs.Reduced.{IsForm}
use Rattle.lin_alg.specs.Rows.{exact_rows}
use Rattle.fix_lattice.specs.Lattice.{form_at}
use Rattle.fix_lattice.specs.Subspaces.{IsWholeForm, AreWholeForms, exact_forms}

module _ {A K : Type 0} (f : FieldOn K) (value : A → K) where
  -- the exact rows of a whole form are a form
  pub whole-form : (w : ℕ) (e : EchelonView A) → IsWholeForm f value w e → IsForm f w (exact_rows f value e.rows)
  whole-form w e t = subst (λ (n : ℕ). IsForm f n (exact_rows f value e.rows)) t.width (t.form.form t.whole)

  pub exact-length : (es : List (EchelonView A)) → length (exact_forms f value es) ≡ length es
  exact-length [] = refl
  exact-length (e ∷ es) = ap suc (exact-length es)

  -- the exact rows of the form at a place
  pub exact-at : (es : List (EchelonView A)) (i : ℕ) (e : EchelonView A) → slice_get es i ≡ Some e → form_at (exact_forms f value es) i ≡ exact_rows f value e.rows
  exact-at [] i e h = let t : None ≡ Some e = h in absurd cc
  exact-at (x ∷ es) zero e h = let t : Some x ≡ Some e = h in let s : x ≡ e = cc in ap (λ (z : EchelonView A). exact_rows f value z.rows) s
  exact-at (x ∷ es) (suc i) e h = exact-at es i e h

  pub got-inside : (es : List (EchelonView A)) (i : ℕ) (e : EchelonView A) → slice_get es i ≡ Some e → i < length es
  got-inside [] i e h = let t : None ≡ Some e = h in absurd cc
  got-inside (x ∷ es) zero e h = omega arith
  got-inside (x ∷ es) (suc i) e h = let l = got-inside es i e h in omega arith

  -- each of the forms is whole
  pub whole-at : (w : ℕ) (es : List (EchelonView A)) (i : ℕ) (e : EchelonView A) → AreWholeForms f value w es → slice_get es i ≡ Some e → IsWholeForm f value w e
  whole-at w [] i e a h = let t : None ≡ Some e = h in absurd cc
  whole-at w (x ∷ es) zero e a h = let t : Some x ≡ Some e = h in let s : x ≡ e = cc in subst (IsWholeForm f value w) s a.0
  whole-at w (x ∷ es) (suc i) e a h = whole-at w es i e a.1 h
