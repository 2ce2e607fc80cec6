use Rattle.std.proofs.Common.{◌≡◌, ℕ, ◌<◌, ◌≤◌, ◌+◌, ◌⊎◌, inl, inr, refl, sym, ◌∙◌, List, length, set, arith, below_more}
use Rattle.cyclo24.specs.ExactField.{ExactField, Value}
use Rattle.lin_alg.specs.Rows.{vector}
use Rattle.lin_alg.specs.SpanLaws.{funext}
use Rattle.lin_alg.specs.RowLaws.{vector-past}
use Rattle.couple.proofs.VectorLemmas.{vector-set_same, vector-set_other}

dec : (k n : ℕ) → (k < n) ⊎ (n ≤ k)
dec k n = grind arith

module _ {A : Type 0} (f : ExactField) (value : A → Value f) where
  -- the columns below j are those of the target, and the others are as at the start
  pub record IsWritten (target start : ℕ → Value f) (row : List A) (j : ℕ) : Type 0 where
    pub done : (k : ℕ) → k < j → vector f.laws value row k ≡ target k
    pub ahead : (k : ℕ) → j ≤ k → vector f.laws value row k ≡ start k

  pub written-start : (target : ℕ → Value f) (row : List A) → IsWritten target (vector f.laws value row) row 0
  written-start target row = record { done = λ k h. absurd (omega arith); ahead = λ k h. refl }

  pub written-set : (target start : ℕ → Value f) (row : List A) (j : ℕ) (y : A) → j < length row →
      value y ≡ target j → IsWritten target start row j → IsWritten target start (set row j y) (j + 1)
  written-set target start row j y l e t = record {
    done = below_more (λ k. vector f.laws value (set row j y) k ≡ target k) j
        (λ k h. let n : k ≡ j → ⊥ = omega arith in vector-set_other f value row j k y n ∙ t.done k h)
        (vector-set_same f value row j y l ∙ e);
    ahead = λ k h. let n : k ≡ j → ⊥ = omega arith in let h' : j ≤ k = omega arith in vector-set_other f value row j k y n ∙ t.ahead k h';
  }

  pub written-all : (target start : ℕ → Value f) (row : List A) (j : ℕ) → length row ≤ j → ((k : ℕ) → length row ≤ k → target k ≡ f.laws.nought) →
      IsWritten target start row j → vector f.laws value row ≡ target
  written-all target start row j l z t =
      funext (λ k. elim (dec k (length row)) [
        | inl h ↦ let h' : k < j = omega arith in t.done k h'
        | inr h ↦ vector-past f value row k h ∙ sym (z k h)
      ])
