-- What comparing forms by the entries of their rows obeys.
--
-- lines_equiv, lines_total, lines_ties, lines_po, lines_respects: laws of equality, order and hash
-- lines-equal, equal-lines: reduced rows of one width have equal entries exactly where their exact rows are equal
use Rattle.std.proofs.Common.{◌≡◌, ◌↔◌, inl, inr, ℕ, suc, Bool, true, false, ◌&&◌, List, [], ◌∷◌, length, map, get_or, refl, sym, ◌∙◌, ap, subst, arith}
use Rattle.std.specs.Prelude.{Some}
use Rattle.std.specs.declared.cmp.Ordering.{Ordering}
use Rattle.std.specs.Ordering.{on, eq_by_cmp}
use Rattle.std.specs.Cmp.{IsTotalOrder, IsEquivalence, IsPartialOrder, po}
use Rattle.std.specs.Cmp.Lexicographic.{slice_cmp, pointwise, lists_ties}
use Rattle.std.proofs.lemmas.Cmp.{on_equiv, on_total, lists_equiv, lists_total}
use Rattle.std.specs.Hash.{HashWrites, Alike, on_Alike, items_Alike}
use Rattle.cyclo24.specs.ExactField.{ExactField, Value}
use Rattle.lin_alg.specs.Reduced.{IsReduced, EndsAt}
use Rattle.lin_alg.specs.SpanLaws.{order, unit-not-nought}
use Rattle.lin_alg.specs.Rows.{vector, exact_rows, HaveWidth}
use Rattle.lin_alg.specs.Compared.{lines_cmp, lines_eq, lines_fed}

pub lines_equiv : {A : Type 0} {E : A → A → Bool} → IsEquivalence E → IsEquivalence (lines_eq E)
lines_equiv e = lists_equiv (on_equiv (λ r. r.1) (lists_equiv e))

pub lines_total : {A : Type 0} {R : A → A → Ordering} → IsTotalOrder R → IsTotalOrder (lines_cmp R)
lines_total o = lists_total (on_total (λ r. r.1) (lists_total o))

pub lines_ties : {A : Type 0} {E : A → A → Bool} (R : A → A → Ordering) → ((x y : A) → E x y ≡ eq_by_cmp R x y) →
    (xs ys : List (ℕ × List A)) → lines_eq E xs ys ≡ eq_by_cmp (lines_cmp R) xs ys
lines_ties R t = lists_ties (on (λ r. r.1) (slice_cmp R)) (λ x y. lists_ties R t x.1 y.1)

pub lines_po : {A K : Type 0} {E : A → A → Bool} {R : A → A → Ordering} (rows : K → List (ℕ × List A)) → IsTotalOrder R → ((x y : A) → E x y ≡ eq_by_cmp R x y) →
    IsPartialOrder (λ a b. lines_eq E (rows a) (rows b)) (λ a b. Some (lines_cmp R (rows a) (rows b)))
lines_po {R = R} rows o t = po (on_total rows (lines_total o)) (λ a b. lines_ties R t (rows a) (rows b))

lines_alike : {A K : Type 0} {E : A → A → Bool} {F : A → HashWrites} (rows : K → List (ℕ × List A)) → Alike E F → Alike (λ a b. lines_eq E (rows a) (rows b)) (λ a. lines_fed F (rows a))
lines_alike rows a = on_Alike rows (items_Alike (on_Alike (λ r. r.1) (items_Alike a)))

pub lines_respects : {A K : Type 0} {E : A → A → Bool} {F : A → HashWrites} (rows : K → List (ℕ × List A)) → ((x y : A) → E x y ≡ true → F x ≡ F y) →
    (a b : K) → lines_eq E (rows a) (rows b) ≡ true → lines_fed F (rows a) ≡ lines_fed F (rows b)
lines_respects rows h a b = (lines_alike rows (record { fed = h })).fed a b

both-true : (a b : Bool) → (a && b) ≡ true → (a ≡ true) × (b ≡ true)
both-true true b h = (refl, h)
both-true false b h = let t : false ≡ true = h in absurd cc

module _ {A : Type 0} (f : ExactField) (value : A → Value f) (E : A → A → Bool) (tells : (x y : A) → (E x y ≡ true) ↔ (value x ≡ value y)) where
  row-equal : (xs ys : List A) → length xs ≡ length ys → ((j : ℕ) → vector f.laws value xs j ≡ vector f.laws value ys j) → pointwise E xs ys ≡ true
  row-equal [] [] l h = refl
  row-equal [] (y ∷ ys) l h = absurd (omega arith)
  row-equal (x ∷ xs) [] l h = absurd (omega arith)
  row-equal (x ∷ xs) (y ∷ ys) l h =
      let head : E x y ≡ true = (tells x y).1 (h 0) in
      let tail : pointwise E xs ys ≡ true = row-equal xs ys (omega arith) (λ j. h (suc j)) in
      λ i. head i && tail i

  equal-row : (xs ys : List A) → pointwise E xs ys ≡ true → map value xs ≡ map value ys
  equal-row [] [] h = refl
  equal-row [] (y ∷ ys) h = let t : false ≡ true = h in absurd cc
  equal-row (x ∷ xs) [] h = let t : false ≡ true = h in absurd cc
  equal-row (x ∷ xs) (y ∷ ys) h =
      let both = both-true (E x y) (pointwise E xs ys) h in
      λ i. (tells x y).0 both.0 i ∷ equal-row xs ys both.1 i

  abbrev first_of_rows : (ℕ → Value f) → List (ℕ × (ℕ → Value f)) → ℕ → Value f
  first_of_rows d [] = d
  first_of_rows d (x ∷ xs) = x.1

  abbrev rest_of_rows : List (ℕ × (ℕ → Value f)) → List (ℕ × (ℕ → Value f))
  rest_of_rows [] = []
  rest_of_rows (x ∷ xs) = xs

  abbrev is_none : List (ℕ × (ℕ → Value f)) → Bool
  is_none [] = true
  is_none (x ∷ xs) = false

  -- rows of one width with the same exact rows are equal by their entries
  pub lines-equal : (w : ℕ) (rs ss : List (ℕ × List A)) → HaveWidth w rs → HaveWidth w ss → exact_rows f.laws value rs ≡ exact_rows f.laws value ss → lines_eq E rs ss ≡ true
  lines-equal w [] [] a b e = refl
  lines-equal w [] (s ∷ ss) a b e = let t : true ≡ false = ap is_none e in absurd cc
  lines-equal w (r ∷ rs) [] a b e = let t : false ≡ true = ap is_none e in absurd cc
  lines-equal w (r ∷ rs) (s ∷ ss) a b e =
      let head : vector f.laws value r.1 ≡ vector f.laws value s.1 = ap (first_of_rows (vector f.laws value r.1)) e in
      let tail : exact_rows f.laws value rs ≡ exact_rows f.laws value ss = ap rest_of_rows e in
      let one : pointwise E r.1 s.1 ≡ true = row-equal r.1 s.1 (a.1 ∙ sym b.1) (λ j. ap (λ v. v j) head) in
      let more : lines_eq E rs ss ≡ true = lines-equal w rs ss a.2 b.2 tail in
      λ i. one i && more i

  -- a row has one pivot
  one-pivot : (p q : ℕ) (v : ℕ → Value f) → EndsAt f.laws p v → EndsAt f.laws q v → p ≡ q
  one-pivot p q v a b =
      elim (order p q) [
        | inl l ↦ absurd (unit-not-nought f.laws (sym b.0 ∙ a.1 q l))
        | inr (inl e) ↦ e
        | inr (inr l) ↦ absurd (unit-not-nought f.laws (sym a.0 ∙ b.1 p l))
      ]

  -- reduced rows that are equal by their entries have the same exact rows
  pub equal-lines : (rs ss : List (ℕ × List A)) → IsReduced f.laws (exact_rows f.laws value rs) → IsReduced f.laws (exact_rows f.laws value ss) → lines_eq E rs ss ≡ true → exact_rows f.laws value rs ≡ exact_rows f.laws value ss
  equal-lines [] [] a b h = refl
  equal-lines [] (s ∷ ss) a b h = let t : false ≡ true = h in absurd cc
  equal-lines (r ∷ rs) [] a b h = let t : false ≡ true = h in absurd cc
  equal-lines (r ∷ rs) (s ∷ ss) a b h =
      let both = both-true (pointwise E r.1 s.1) (lines_eq E rs ss) h in
      let row : vector f.laws value r.1 ≡ vector f.laws value s.1 = λ i. λ j. get_or (equal-row r.1 s.1 both.0 i) j f.laws.nought in
      let ends : EndsAt f.laws r.0 (vector f.laws value s.1) = subst (EndsAt f.laws r.0) row a.0 in
      let pivot : r.0 ≡ s.0 = one-pivot r.0 s.0 (vector f.laws value s.1) ends b.0 in
      let rest : exact_rows f.laws value rs ≡ exact_rows f.laws value ss = equal-lines rs ss a.2 b.2 both.1 in
      λ i. (pivot i, row i) ∷ rest i
