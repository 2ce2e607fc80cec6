-- A matrix of which one row is written, entry by entry.
use Rattle.std.proofs.Common.{◌≡◌, ℕ, ◌+◌, ◌<◌, ◌&&◌, refl, ◌∙◌, ap, arith, nat_eq, below_more, if◌then◌else◌}
use Rattle.lin_alg.specs.EquationLaws.{eq-self, eq-other}
use Rattle.lin_alg.specs.Matrix.{with_entry}

-- row i holds the target in the columns below j, and the other rows are as before
pub record IsFilled {K : Type 0} (old new : ℕ → ℕ → K) (i : ℕ) (t : ℕ → K) (j : ℕ) : Type 0 where
  pub row : (l : ℕ) → l < j → new i l ≡ t l
  pub others : (k l : ℕ) → (k ≡ i → ⊥) → new k l ≡ old k l

module _ {K : Type 0} where
  pub filled-start : (old : ℕ → ℕ → K) (i : ℕ) (t : ℕ → K) → IsFilled old old i t 0
  filled-start old i t = record { row = λ l b. absurd (omega (arith, b)); others = λ k l n. refl }

  pub filled-next : (old new more : ℕ → ℕ → K) (i : ℕ) (t : ℕ → K) (j : ℕ) (x : K) → x ≡ t j → ((k l : ℕ) → more k l ≡ with_entry i j x new k l) → IsFilled old new i t j → IsFilled old more i t (j + 1)
  filled-next old new more i t j x e set h = record {
    row = below_more (λ l. more i l ≡ t l) j
        (λ l b. set i l ∙ ap (λ s. if s && nat_eq l j then x else new i l) (eq-self i) ∙ ap (λ s. if s then x else new i l) (eq-other l j (λ d. absurd (omega (arith, b, d)))) ∙ h.row l b)
        (set i j ∙ ap (λ s. if s && nat_eq j j then x else new i j) (eq-self i) ∙ ap (λ s. if s then x else new i j) (eq-self j) ∙ e);
    others = λ k l n. set k l ∙ ap (λ s. if s && nat_eq l j then x else new k l) (eq-other k i n) ∙ h.others k l n;
  }
