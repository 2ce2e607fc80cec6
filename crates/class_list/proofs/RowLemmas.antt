-- Rows that are written entry by entry.
use Rattle.std.proofs.Common.{◌≡◌, ℕ, suc, ◌<◌, ◌≤◌, ◌+◌, inl, inr, true, refl, sym, ◌∙◌, ap, subst, List, length, map, set, get_or, arith, below_more, length-set, if◌then◌else◌, lt-ltb, le-ltb, add-one}
use Rattle.std.proofs.lemmas.List.{get_or-map, get_or-set_same, get_or-set_other, map-set}
use Rattle.cyclo24.specs.ExactField.{ExactField, Value}
use Rattle.cyclo24.specs.FieldOn.{FieldOn}
use Rattle.cyclo24.specs.FieldLaws.{nought-plus, times-nought, nought-times}
use Rattle.cyclo24.specs.Sums.{total}
use Rattle.lin_alg.specs.Action.{Action, entry_of}
use Rattle.lin_alg.specs.EquationLaws.{dec}
use Rattle.lin_alg.specs.Images.{row_image}
use Rattle.lin_alg.specs.Matrix.{IsWideTerm}
use Rattle.lin_alg.specs.Rows.{vector}
use Rattle.lin_alg.specs.RowLaws.{vector-past}
use Rattle.lin_alg.specs.SpanLaws.{funext}
use Rattle.class_list.specs.Wide.{IsWideImage}

module _ {K : Type 0} (f : FieldOn K) where
  pub add-left_nought : (s x y : K) → f.is_nought x ≡ true → s ≡ f.plus s (f.times x y)
  add-left_nought s x y z = sym (ap (λ a. f.plus s (f.times a y)) (f.is_nought-true x z) ∙ ap (f.plus s) (nought-times f y) ∙ f.plus-nought s)

  pub add-right_nought : (s x y : K) → f.is_nought y ≡ true → s ≡ f.plus s (f.times x y)
  add-right_nought s x y z = sym (ap (λ a. f.plus s (f.times x a)) (f.is_nought-true y z) ∙ ap (f.plus s) (times-nought f x) ∙ f.plus-nought s)

  pub nought-add : (s r : K) → f.is_nought s ≡ true → r ≡ f.plus s r
  nought-add s r z = sym (ap (λ a. f.plus a r) (f.is_nought-true s z) ∙ nought-plus f r)

module _ {A : Type 0} (f : ExactField) (value : A → Value f) where
  pub vector-at : (xs : List A) (j : ℕ) (x : A) → j < length xs → x ≡ get_or xs j x → vector f.laws value xs j ≡ value x
  vector-at xs j x l e = get_or-map value xs j x f.laws.nought l ∙ ap value (sym e)

  pub vector-set_same : (xs : List A) (j : ℕ) (x : A) → j < length xs → vector f.laws value (set xs j x) j ≡ value x
  vector-set_same xs j x l = vector-at (set xs j x) j x (rw length-set l) (sym (get_or-set_same xs j x x l))

  pub vector-set_other : (xs : List A) (j k : ℕ) (x : A) → (k ≡ j → ⊥) → vector f.laws value (set xs j x) k ≡ vector f.laws value xs k
  vector-set_other xs j k x n = ap (λ ys. get_or ys k f.laws.nought) (map-set value xs j x) ∙ get_or-set_other (map value xs) j k (value x) f.laws.nought n

  -- the columns below j are those of the target, and the others are as at the start
  pub record IsWritten (target start : ℕ → Value f) (row : List A) (j : ℕ) : Type 0 where
    pub done : (k : ℕ) → k < j → vector f.laws value row k ≡ target k
    pub ahead : (k : ℕ) → j ≤ k → vector f.laws value row k ≡ start k

  pub written-start : (target : ℕ → Value f) (row : List A) → IsWritten target (vector f.laws value row) row 0
  written-start target row = record { done = λ k h. absurd (omega arith); ahead = λ k h. refl }

  pub written-set : (target start : ℕ → Value f) (row : List A) (j : ℕ) (y : A) → j < length row → value y ≡ target j → IsWritten target start row j → IsWritten target start (set row j y) (j + 1)
  written-set target start row j y l e t = record {
    done = below_more (λ k. vector f.laws value (set row j y) k ≡ target k) j
        (λ k h. let n : k ≡ j → ⊥ = omega arith in vector-set_other row j k y n ∙ t.done k h)
        (vector-set_same row j y l ∙ e);
    ahead = λ k h. let n : k ≡ j → ⊥ = omega arith in let h' : j ≤ k = omega arith in vector-set_other row j k y n ∙ t.ahead k h';
  }

  module _ (act : Action) (q : ℕ) (e : ℕ → Value f) where
    -- the row has the first i terms of e A(q^-1)
    abbrev pub HasTerms : List A → ℕ → Type 0
    HasTerms row i = (j : ℕ) → j < act.dim → vector f.laws value row j ≡ total f.laws i (λ k. f.laws.times (e k) (entry_of f.laws act (act.group.inverse q) k j))

    pub terms-step : (i p : ℕ) (c : Value f) (old new : List A) → p ≡ act.group.inverse q → e i ≡ c → HasTerms old i →
        ((j : ℕ) → j < act.dim → vector f.laws value new j ≡ f.laws.plus (vector f.laws value old j) (f.laws.times c (entry_of f.laws act p i j))) → HasTerms new (i + 1)
    terms-step i p c old new a b h n =
        let step : HasTerms new (suc i) =
        λ j l. n j l ∙ (λ z. f.laws.plus (h j l z) (f.laws.times (sym b z) (entry_of f.laws act (a z) i j))) in
        subst (HasTerms new) (sym (add-one i)) step

    pub terms-all : (row : List A) → length row ≡ act.dim → HasTerms row act.dim → vector f.laws value row ≡ row_image f.laws act q e
    terms-all row w h =
        funext (λ j. elim (dec j act.dim) [
          | inl l ↦ h j l ∙ sym (ap (λ b. if b then total f.laws act.dim (λ i. f.laws.times (e i) (entry_of f.laws act (act.group.inverse q) i j)) else f.laws.nought) (lt-ltb j act.dim l))
          | inr l ↦
              let past : length row ≤ j = omega arith in
              vector-past f value row j past ∙ sym (ap (λ b. if b then total f.laws act.dim (λ i. f.laws.times (e i) (entry_of f.laws act (act.group.inverse q) i j)) else f.laws.nought) (le-ltb j act.dim l))
        ])

    -- a wide term of one step is one of the row's
    pub terms-wide : (i p : ℕ) (c : Value f) (old : List A) → p ≡ act.group.inverse q → e i ≡ c → i < act.dim → HasTerms old i →
        (j : ℕ) → j < act.dim → IsWideTerm f (vector f.laws value old j) c (entry_of f.laws act p i j) → IsWideImage f act q e
    terms-wide i p c old a b l h j m w =
        let P : Value f → Value f → ℕ → Type 0 = λ s x z. IsWideTerm f s x (entry_of f.laws act z i j) in
        let one : P (total f.laws i (λ k. f.laws.times (e k) (entry_of f.laws act (act.group.inverse q) k j))) c p = subst (λ (s : Value f). P s c p) (h j m) w in
        let two : P (total f.laws i (λ k. f.laws.times (e k) (entry_of f.laws act (act.group.inverse q) k j))) (e i) p = subst (λ (x : Value f). P (total f.laws i (λ k. f.laws.times (e k) (entry_of f.laws act (act.group.inverse q) k j))) x p) (sym b) one in
        (j, m, (i, l, subst (λ (z : ℕ). P (total f.laws i (λ k. f.laws.times (e k) (entry_of f.laws act (act.group.inverse q) k j))) (e i) z) a two))
