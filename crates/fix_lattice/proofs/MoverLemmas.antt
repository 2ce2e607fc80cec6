-- A written row of A(q) - 1.
use Rattle.std.proofs.Common.{◌≡◌, ℕ, ◌<◌, ◌≤◌, ◌⊎◌, inl, inr, sym, ◌∙◌, ap, subst, List, arith, length, map, set, get_or, lt-ltb, le-ltb, if◌then◌else◌, length-set}
use Rattle.std.proofs.lemmas.List.{get_or-map, get_or-set_same, get_or-set_other, map-set}
use Rattle.cyclo24.specs.ExactField.{ExactField, Value}
use Rattle.cyclo24.specs.FieldLaws.{neg-nought}
use Rattle.lin_alg.specs.Action.{Action, entry_of}
use Rattle.lin_alg.specs.EquationLaws.{dec, eq-self, eq-other}
use Rattle.lin_alg.specs.Fixed.{mover}
use Rattle.lin_alg.specs.Matrices.{unit_entry}
use Rattle.lin_alg.specs.Rows.{vector}
use Rattle.lin_alg.specs.RowLaws.{vector-past}
use Rattle.lin_alg.specs.SpanLaws.{funext}

same : (j i : ℕ) → (j ≡ i) ⊎ (j ≡ i → ⊥)
same j i = grind arith

module _ {A : Type 0} (f : ExactField) (value : A → Value f) where
  pub vector-at : (xs : List A) (j : ℕ) (x : A) → j < length xs → x ≡ get_or xs j x → vector f.laws value xs j ≡ value x
  vector-at xs j x l e = get_or-map value xs j x f.laws.nought l ∙ ap value (sym e)

  vector-set_same : (xs : List A) (j : ℕ) (x : A) → j < length xs → vector f.laws value (set xs j x) j ≡ value x
  vector-set_same xs j x l = vector-at (set xs j x) j x (rw length-set l) (sym (get_or-set_same xs j x x l))

  vector-set_other : (xs : List A) (j k : ℕ) (x : A) → (k ≡ j → ⊥) → vector f.laws value (set xs j x) k ≡ vector f.laws value xs k
  vector-set_other xs j k x n = ap (λ ys. get_or ys k f.laws.nought) (map-set value xs j x) ∙ get_or-set_other (map value xs) j k (value x) f.laws.nought n

  -- row i of A(q) with 1 taken from its entry i
  pub mover-made : (act : Action) (q i : ℕ) (row : List A) (y : A) → i < act.dim → length row ≡ act.dim → ((j : ℕ) → j < act.dim → vector f.laws value row j ≡ entry_of f.laws act q i j) →
      value y ≡ f.laws.plus (vector f.laws value row i) (f.laws.neg f.laws.unit) → vector f.laws value (set row i y) ≡ mover f.laws act q i
  mover-made act q i row y l n e y_is =
      let past : (j : ℕ) → act.dim ≤ j → vector f.laws value (set row i y) j ≡ f.laws.nought =
      λ j m. let n' : j ≡ i → ⊥ = omega arith in vector-set_other row i j y n' ∙ vector-past f value row j (omega arith) in
      let made : (j : ℕ) → j < act.dim → vector f.laws value (set row i y) j ≡ f.laws.plus (entry_of f.laws act q i j) (f.laws.neg (unit_entry f.laws i j)) =
      λ j m. elim (same j i) [
        | inl d ↦
            let one : unit_entry f.laws i i ≡ f.laws.unit = ap (λ b. if b then f.laws.unit else f.laws.nought) (eq-self i) in
            let own : vector f.laws value (set row i y) i ≡ f.laws.plus (entry_of f.laws act q i i) (f.laws.neg (unit_entry f.laws i i)) =
            vector-set_same row i y (omega arith) ∙ y_is ∙ (λ t. f.laws.plus (e i l t) (f.laws.neg (sym one t))) in
            subst (λ (z : ℕ). vector f.laws value (set row i y) z ≡ f.laws.plus (entry_of f.laws act q i z) (f.laws.neg (unit_entry f.laws i z))) (sym d) own
        | inr d ↦
            let none : unit_entry f.laws i j ≡ f.laws.nought = ap (λ b. if b then f.laws.unit else f.laws.nought) (eq-other i j (λ z. d (sym z))) in
            vector-set_other row i j y d ∙ e j m ∙ sym (ap (λ z. f.laws.plus (entry_of f.laws act q i j) (f.laws.neg z)) none ∙ ap (f.laws.plus (entry_of f.laws act q i j)) (neg-nought f.laws) ∙ f.laws.plus-nought (entry_of f.laws act q i j))
      ] in
      funext (λ j. elim (dec j act.dim) [
        | inl m ↦ made j m ∙ sym (ap (λ b. if b then f.laws.plus (entry_of f.laws act q i j) (f.laws.neg (unit_entry f.laws i j)) else f.laws.nought) (lt-ltb j act.dim m))
        | inr m ↦ past j m ∙ sym (ap (λ b. if b then f.laws.plus (entry_of f.laws act q i j) (f.laws.neg (unit_entry f.laws i j)) else f.laws.nought) (le-ltb j act.dim m))
      ])
