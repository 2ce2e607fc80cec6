use Rattle.std.proofs.Common.{◌≡◌, ℕ, suc, zero, ◌+◌, ◌<◌, inl, inr, ◌||◌, ◌&&◌, Bool, true, false, sym, ◌∙◌, ap, subst, List, [], ◌∷◌, length, get_or, drop, arith, nat_eq, if◌then◌else◌}
use Rattle.std.proofs.lemmas.Bool.Decides.{eqb_tells}
use Rattle.cyclo24.specs.ExactField.{ExactField, Value}
use Rattle.cyclo24.specs.FieldLaws.{nought-plus, less-at-nought}
use Rattle.lin_alg.specs.Reduced.{IsReduced, is_pivot}
use Rattle.lin_alg.specs.Rows.{vector, exact_rows}
use Rattle.lin_alg.specs.Equations.{free_vector}
use Rattle.lin_alg.specs.EquationLaws.{eq-self, eq-other}
use Rattle.lin_alg.specs.FreeLaws.{free-past}
use Rattle.lin_alg.specs.Matrix.{with_entry}
use Rattle.lin_alg.proofs.RowLemmas.{drop-item}

pub pivot-here : {V : Type 0} (p : ℕ) (all : List (ℕ × V)) (i : ℕ) (x : ℕ × V) → i < length all → x ≡ get_or all i x → p ≡ x.0 → is_pivot p all ≡ is_pivot p (drop i all) → is_pivot p all ≡ true
pivot-here p all i x l e h t =
    let own : nat_eq p x.0 ≡ true = ap (nat_eq p) (sym h) ∙ eq-self p in
    t ∙ ap (is_pivot p) (drop-item all i x l e) ∙ ap (λ b. b || is_pivot p (drop (i + 1) all)) own

pub pivot-next : {V : Type 0} (p : ℕ) (all : List (ℕ × V)) (i : ℕ) (x : ℕ × V) → i < length all → x ≡ get_or all i x → (p ≡ x.0 → ⊥) → is_pivot p all ≡ is_pivot p (drop i all) → is_pivot p all ≡ is_pivot p (drop (i + 1) all)
pivot-next p all i x l e n t = t ∙ ap (is_pivot p) (drop-item all i x l e) ∙ ap (λ b. b || is_pivot p (drop (i + 1) all)) (eq-other p x.0 n)

-- a column without pivot is not the pivot of a row
pub not-pivot : {V : Type 0} (c : ℕ) (all : List (ℕ × V)) (i : ℕ) (x : ℕ × V) → i < length all → x ≡ get_or all i x → is_pivot c all ≡ false → x.0 ≡ c → ⊥
not-pivot c [] i x l e h s = absurd (omega arith)
not-pivot c (r ∷ rs) zero x l e h s =
    let same : c ≡ r.0 = sym s ∙ ap (λ y. y.0) e in
    let own : nat_eq c r.0 ≡ true = ap (nat_eq c) (sym same) ∙ eq-self c in
    let t : true ≡ false = sym (ap (λ b. b || is_pivot c rs) own) ∙ h in cc
not-pivot c (r ∷ rs) (suc i) x l e h s = not-pivot c rs i x (omega arith) e (tail (nat_eq c r.0) (is_pivot c rs) h) s where
  tail : (a b : Bool) → (a || b) ≡ false → b ≡ false
  tail true b h = let t : true ≡ false = h in absurd cc
  tail false b h = h

module _ {A : Type 0} (f : ExactField) (value : A → Value f) where
  pub reduced-drop : (i : ℕ) (all : List (ℕ × List A)) → IsReduced f.laws (exact_rows f.laws value all) → IsReduced f.laws (exact_rows f.laws value (drop i all))
  reduced-drop zero all r = r
  reduced-drop (suc i) [] r = r
  reduced-drop (suc i) (x ∷ all) r = reduced-drop i all r.2

  -- one more pivot, from the last row to the first
  pub free-step : (all : List (ℕ × List A)) (i : ℕ) (x : ℕ × List A) (c : ℕ) (old new : ℕ → Value f) → i < length all → x ≡ get_or all i x →
      IsReduced f.laws (exact_rows f.laws value all) → is_pivot c all ≡ false → ((j : ℕ) → old j ≡ free_vector f.laws (exact_rows f.laws value (drop (i + 1) all)) c j) →
      ((j : ℕ) → new j ≡ (if nat_eq j x.0 then f.laws.neg (vector f.laws value x.1 c) else old j)) →
      (j : ℕ) → new j ≡ free_vector f.laws (exact_rows f.laws value (drop i all)) c j
  free-step all i x c old new l e r free o n j =
      let d = drop-item all i x l e in
      let red : IsReduced f.laws (exact_rows f.laws value (x ∷ drop (i + 1) all)) = subst (λ (z : List (ℕ × List A)). IsReduced f.laws (exact_rows f.laws value z)) d (reduced-drop i all r) in
      let rest : List (ℕ × (ℕ → Value f)) = exact_rows f.laws value (drop (i + 1) all) in
      let b : Value f = vector f.laws value x.1 c in
      let apart : x.0 ≡ c → ⊥ = not-pivot c all i x l e free in
      n j
      ∙ elim (eqb_tells j x.0) [
        | inl h ↦
            let before : free_vector f.laws rest c j ≡ f.laws.nought = ap (free_vector f.laws rest c) h.1 ∙ free-past f.laws rest c x.0 apart red.1 in
            ap (λ t. if t then f.laws.neg b else old j) h.0
            ∙ sym (ap (λ t. f.laws.plus (free_vector f.laws rest c j) (f.laws.neg (f.laws.times b (if t then f.laws.unit else f.laws.nought)))) h.0
            ∙ (λ z. f.laws.plus (before z) (f.laws.neg (f.laws.times-unit b z))) ∙ nought-plus f.laws (f.laws.neg b))
        | inr h ↦
            ap (λ t. if t then f.laws.neg b else old j) h.0 ∙ o j
            ∙ sym (ap (λ t. f.laws.plus (free_vector f.laws rest c j) (f.laws.neg (f.laws.times b (if t then f.laws.unit else f.laws.nought)))) h.0
            ∙ less-at-nought f.laws (free_vector f.laws rest c j) b)
      ]
      ∙ ap (λ z. free_vector f.laws (exact_rows f.laws value z) c j) (sym d)

pub with_entry-row : {K : Type 0} (i p : ℕ) (y : K) (m : ℕ → ℕ → K) (j : ℕ) → with_entry i p y m i j ≡ (if nat_eq j p then y else m i j)
with_entry-row i p y m j = ap (λ b. if b && nat_eq j p then y else m i j) (eq-self i)

pub with_entry-other : {K : Type 0} (i p : ℕ) (y : K) (m : ℕ → ℕ → K) (k j : ℕ) → (k ≡ i → ⊥) → with_entry i p y m k j ≡ m k j
with_entry-other i p y m k j n = ap (λ b. if b && nat_eq j p then y else m k j) (eq-other k i n)
