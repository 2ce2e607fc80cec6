-- One cut of held forms.
use Rattle.std.proofs.Common.{◌≡◌, ◌↔◌, ℕ, inl, inr, sym, subst, List, length, Result, Ok, Err, IfOk}
use Rattle.cyclo24.specs.ExactField.{ExactField, Value}
use Rattle.lin_alg.specs.Action.{Action}
use Rattle.lin_alg.specs.Echelon.{EchelonView, IsSolution}
use Rattle.lin_alg.specs.Rows.{exact_rows}
use Rattle.fix_lattice.specs.Held.{IsFixSpace, IsSingleSpace, IsMeet, IsPut, IsCutAt}
use Rattle.fix_lattice.specs.Lattice.{IsInSpace, form_at}
use Rattle.fix_lattice.specs.Subspaces.{IsWholeForm, exact_forms}
use Rattle.fix_lattice.specs.Wide.{IsWideInserts, IsWideFixes, row_of}
use Rattle.fix_lattice.specs.FormLaws.{whole-form}

pub ok-map : {T E : Type 0} (r : Result T E) (P Q : T → Type 0) → ((x : T) → P x → Q x) → IfOk r P → IfOk r Q
ok-map (Ok x) P Q t h = t x h
ok-map (Err e) P Q t h = tt

module _ {A : Type 0} (f : ExactField) (value : A → Value f) where
  pub meet-read : (w : ℕ) (space by new : EchelonView A) → IsWholeForm f.laws value w space → IsWholeForm f.laws value w by → IsWholeForm f.laws value w new →
      ((v : ℕ → Value f) → IsSolution f.laws value new v ↔ (IsSolution f.laws value by v × IsSolution f.laws value space v)) →
      IsMeet f.laws w (exact_rows f.laws value space.rows) (exact_rows f.laws value by.rows) (exact_rows f.laws value new.rows)
  meet-read w space by new s b n h v =
      let us = exact_rows f.laws value space.rows in
      let es = exact_rows f.laws value by.rows in
      let xs = exact_rows f.laws value new.rows in
      subst (λ (z : ℕ). IsInSpace f.laws z xs v ↔ (IsInSpace f.laws w es v × IsInSpace f.laws w us v)) n.width
      (subst (λ (z : ℕ). IsInSpace f.laws new.width xs v ↔ (IsInSpace f.laws z es v × IsInSpace f.laws w us v)) b.width
      (subst (λ (z : ℕ). IsInSpace f.laws new.width xs v ↔ (IsInSpace f.laws by.width es v × IsInSpace f.laws z us v)) s.width (h v)))

  -- a new form is the cut of two held ones
  pub cut-at : (act : Action) (old new : List (EchelonView A)) (i k p : ℕ) (space by x : EchelonView A) → form_at (exact_forms f.laws value old) i ≡ exact_rows f.laws value space.rows →
      form_at (exact_forms f.laws value old) k ≡ exact_rows f.laws value by.rows → IsWholeForm f.laws value act.dim space → IsWholeForm f.laws value act.dim by → IsWholeForm f.laws value act.dim x →
      ((v : ℕ → Value f) → IsSolution f.laws value x v ↔ (IsSolution f.laws value by v × IsSolution f.laws value space v)) →
      IsPut (exact_forms f.laws value old) (exact_rows f.laws value x.rows) (exact_forms f.laws value new) p → IsCutAt f.laws act (exact_forms f.laws value old) i k (exact_forms f.laws value new) p
  cut-at act old new i k p space by x es eb ws wb wx h put =
      let m = meet-read act.dim space by x ws wb wx h in (
        exact_rows f.laws value x.rows,
        (
          whole-form f.laws value act.dim x wx,
          (
            subst (λ (u : List (ℕ × (ℕ → Value f))). IsMeet f.laws act.dim u (form_at (exact_forms f.laws value old) k) (exact_rows f.laws value x.rows)) (sym es)
                (subst (λ (u : List (ℕ × (ℕ → Value f))). IsMeet f.laws act.dim (exact_rows f.laws value space.rows) u (exact_rows f.laws value x.rows)) (sym eb) m),
            put,
          ),
        ),
      )

module _ (f : ExactField) (act : Action) where
  -- a wide cut of held forms is one of those that fixed subspaces have
  pub wide-cut : (w : ℕ) (u e us es : List (ℕ × (ℕ → Value f))) → w ≡ act.dim → u ≡ us → e ≡ es → IsFixSpace f.laws act u → IsSingleSpace f.laws act e →
      IsWideInserts f w us (length es) (row_of f.laws es) → IsWideFixes f act
  wide-cut w u e us es p q r o s h =
      let us_fix = subst (λ (z : List (ℕ × (ℕ → Value f))). IsFixSpace f.laws act z) q o in
      let es_fix = subst (λ (z : List (ℕ × (ℕ → Value f))). IsSingleSpace f.laws act z) r s in
      let wide : IsWideInserts f act.dim us (length es) (row_of f.laws es) = subst (λ (z : ℕ). IsWideInserts f z us (length es) (row_of f.laws es)) p h in
      (es_fix.0, es_fix.1.0, inr (inr (us_fix.0, us, us_fix.1.0, us_fix.1.1, inl (es, es_fix.1.1, wide))))
