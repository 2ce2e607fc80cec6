use Rattle.std.proofs.Common.{◌≡◌, ℕ, ◌+◌, ◌<◌, refl, sym, ◌∙◌, subst, List, length, set, arith, below_more}
use Rattle.cyclo24.specs.ExactField.{ExactField, Value}
use Rattle.lin_alg.specs.Rows.{vector}
use Rattle.mode_project.specs.Parts.{IsPut}
use Rattle.mode_project.proofs.VectorLemmas.{vector-set_same, vector-set_other}

module _ {A : Type 0} (f : ExactField) (value : A → Value f) where
  pub put-start : (target : ℕ → Value f) (row : List A) (at : ℕ) → IsPut (vector f.laws value row) at 0 target (vector f.laws value row)
  put-start target row at = record { here = λ a l. absurd (omega (arith, l)); before = λ k l. refl; behind = λ k l. refl }

  pub put-next : (old target : ℕ → Value f) (row : List A) (at a : ℕ) (y : A) → at + a < length row → value y ≡ target a → IsPut old at a target (vector f.laws value row)
      → IsPut old at (a + 1) target (vector f.laws value (set row (at + a) y))
  put-next old target row at a y l e t = record {
    here = below_more (λ b. vector f.laws value (set row (at + a) y) (at + b) ≡ target b) a
        (λ b m. let n : at + b ≡ at + a → ⊥ = λ h. absurd (omega (arith, m, h)) in vector-set_other f value row (at + a) (at + b) y n ∙ t.here b m)
        (vector-set_same f value row (at + a) y l ∙ e);
    before = λ k m. let n : k ≡ at + a → ⊥ = λ h. absurd (omega (arith, m, h)) in vector-set_other f value row (at + a) k y n ∙ t.before k m;
    behind = λ k m.
        let n : k ≡ at + a → ⊥ = λ h. absurd (omega (arith, m, h)) in
        vector-set_other f value row (at + a) k y n ∙ t.behind k (omega (arith, m));
  }

  -- the same at a place that is another name of it
  pub put-at : (old target : ℕ → Value f) (row : List A) (at first a : ℕ) (y : A) → first ≡ at → first + a < length row → value y ≡ target a → IsPut old at a target (vector f.laws value row)
      → IsPut old at (a + 1) target (vector f.laws value (set row (first + a) y))
  put-at old target row at first a y fe l e t =
      let place : at + a < length row = subst (λ (z : ℕ). z + a < length row) fe l in
      subst (λ (z : ℕ). IsPut old at (a + 1) target (vector f.laws value (set row (z + a) y))) (sym fe) (put-next old target row at a y place e t)
