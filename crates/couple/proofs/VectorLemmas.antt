use Rattle.std.proofs.Common.{◌≡◌, ℕ, ◌<◌, sym, ◌∙◌, ap, List, length, map, get_or, set, length-set}
use Rattle.std.proofs.lemmas.List.{get_or-map, get_or-set_same, get_or-set_other, map-set}
use Rattle.cyclo24.specs.ExactField.{ExactField, Value}
use Rattle.lin_alg.specs.Rows.{vector}

module _ {A : Type 0} (f : ExactField) (value : A → Value f) where
  pub vector-at : (xs : List A) (j : ℕ) (x : A) → j < length xs → x ≡ get_or xs j x → vector f.laws value xs j ≡ value x
  vector-at xs j x l e = get_or-map value xs j x f.laws.nought l ∙ ap value (sym e)

  pub vector-set_same : (xs : List A) (j : ℕ) (x : A) → j < length xs → vector f.laws value (set xs j x) j ≡ value x
  vector-set_same xs j x l =
      vector-at (set xs j x) j x (rw length-set l) (sym (get_or-set_same xs j x x l))

  pub vector-set_other : (xs : List A) (j k : ℕ) (x : A) → (k ≡ j → ⊥) → vector f.laws value (set xs j x) k ≡ vector f.laws value xs k
  vector-set_other xs j k x n =
      ap (λ ys. get_or ys k f.laws.nought) (map-set value xs j x) ∙ get_or-set_other (map value xs) j k (value x) f.laws.nought n
