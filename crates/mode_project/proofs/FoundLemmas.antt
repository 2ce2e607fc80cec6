use Rattle.std.proofs.Common.{◌≡◌, ℕ, suc, zero, ◌+◌, ◌<◌, refl, sym, ◌∙◌, ap, subst, arith, nat_eq, if◌then◌else◌, List, [], ◌∷◌, length, map, get_or, Vec}
use Rattle.std.specs.Prelude.{slice_index, slice_index_or, slice_get, Some, None}
use Rattle.std.proofs.lemmas.List.{get_or-map}
use Rattle.cyclo24.specs.ExactField.{ExactField, Value}
use Rattle.cyclo24.specs.FieldOn.{FieldOn}
use Rattle.lin_alg.specs.EquationLaws.{eq-self, unit-other}
use Rattle.lin_alg.specs.Equations.{unit_vector}
use Rattle.lin_alg.specs.Rows.{vector, exact_rows}
use Rattle.mode_project.specs.Joined.{lines_in, AreLong}
use Rattle.mode_project.specs.Modes.{all_modes, vector_at}
use Rattle.mode_project.proofs.VectorLemmas.{vector-at}

got : (xs : List ℕ) (k s : ℕ) → slice_get xs k ≡ Some s → slice_index xs k ≡ s
got [] k s e = absurd (let n : None ≡ Some s = e in cc)
got (x ∷ xs) zero s e = let h : Some x ≡ Some s = e in cc
got (x ∷ xs) (suc k) s e = got xs k s e

module _ {K : Type 0} (f : FieldOn K) where
  pub at-unit : (sites : List ℕ) (m : ℕ) → m < length sites → vector_at f (map (unit_vector f) sites) m ≡ unit_vector f (slice_index sites m)
  at-unit [] m l = absurd (omega (arith, l))
  at-unit (p ∷ sites) zero l = refl
  at-unit (p ∷ sites) (suc m) l = at-unit sites m (omega (arith, l))

  module _ {A : Type 0} (value : A → K) where
    pub at-row : (rows : List (ℕ × List A)) (sites : List ℕ) (m : ℕ) → m < length rows → vector_at f (all_modes f (exact_rows f value rows) sites) m ≡ vector f value (slice_index_or rows m (0, [])).1
    at-row [] sites m l = absurd (omega (arith, l))
    at-row (r ∷ rows) sites zero l = refl
    at-row (r ∷ rows) sites (suc m) l = at-row rows sites m (omega (arith, l))

    pub at-site : (rows : List (ℕ × List A)) (sites : List ℕ) (m k : ℕ) → length rows + k ≡ m → k < length sites → vector_at f (all_modes f (exact_rows f value rows) sites) m ≡ unit_vector f (slice_index sites k)
    at-site [] sites m k e l = let e' : m ≡ k = omega (arith, e) in ap (vector_at f (map (unit_vector f) sites)) e' ∙ at-unit sites k l
    at-site (r ∷ rows) sites zero k e l = absurd (omega (arith, e))
    at-site (r ∷ rows) sites (suc m) k e l = at-site rows sites m k (omega (arith, e)) l

pub long-at : {A : Type 0} (n : ℕ) (rows : List (ℕ × List A)) (m : ℕ) → m < length rows → AreLong n rows → length (slice_index_or rows m (0, [])).1 ≡ n
long-at n [] m l h = absurd (omega (arith, l))
long-at n (r ∷ rows) zero l h = h.0
long-at n (r ∷ rows) (suc m) l h = long-at n rows m (omega (arith, l)) h.1

-- a row as it is held
pub line-is : {A Z : Type 0} (rows : List (ℕ × Vec A Z)) (m : ℕ) (r : ℕ × Vec A Z) → m < length rows → r ≡ get_or rows m r → slice_index_or (lines_in rows) m (0, []) ≡ (r.0, r.1.items)
line-is {A} {Z} rows m r l e =
    let line : ℕ × Vec A Z → ℕ × List A = λ x. (x.0, x.1.items) in
    get_or-map line rows m r (0, []) l ∙ ap line (sym e)

pub lines-length : {A Z : Type 0} (rows : List (ℕ × Vec A Z)) → length (lines_in rows) ≡ length rows
lines-length [] = refl
lines-length (r ∷ rows) = ap suc (lines-length rows)

pub held-long : {A Z : Type 0} (n : ℕ) (rows : List (ℕ × Vec A Z)) (m : ℕ) (r : ℕ × Vec A Z) → m < length (lines_in rows) → AreLong n (lines_in rows) → r ≡ get_or rows m r → length r.1.items ≡ n
held-long {A} {Z} n rows m r l h e =
    let l' : m < length rows = subst (λ (k : ℕ). m < k) (lines-length rows) l in
    sym (ap (λ (x : ℕ × List A). length x.1) (line-is rows m r l' e)) ∙ long-at n (lines_in rows) m l h

module _ {A : Type 0} (f : ExactField) (value : A → Value f) (rows : List (ℕ × List A)) (sites : List ℕ) (m column : ℕ) where
  abbrev mode : ℕ → Value f
  mode = vector_at f.laws (all_modes f.laws (exact_rows f.laws value rows) sites) m

  pub found-row : (row : List A) (x : A) → m < length rows → row ≡ (slice_index_or rows m (0, [])).1 → column < length row → x ≡ get_or row column x → value x ≡ mode column
  found-row row x l e lc q =
      sym (vector-at f value row column x lc q) ∙ ap (λ xs. vector f.laws value xs column) e ∙ ap (λ (v : ℕ → Value f). v column) (sym (at-row f.laws value rows sites m l))

  module _ (k s : ℕ) (e : length rows + k ≡ m) (l : k < length sites) (q : slice_get sites k ≡ Some s) where
    own : mode ≡ unit_vector f.laws s
    own = at-site f.laws value rows sites m k e l ∙ ap (unit_vector f.laws) (got sites k s q)

    pub found-site : (x : A) → value x ≡ f.laws.unit → column ≡ s → value x ≡ mode column
    found-site x h c = h ∙ sym (ap (λ (v : ℕ → Value f). v column) own ∙ ap (λ b. if b then f.laws.unit else f.laws.nought) (ap (λ n. nat_eq n s) c ∙ eq-self s))

    pub found-other : (x : A) → value x ≡ f.laws.nought → (column ≡ s → ⊥) → value x ≡ mode column
    found-other x h c = h ∙ sym (ap (λ (v : ℕ → Value f). v column) own ∙ unit-other f.laws s column c)
