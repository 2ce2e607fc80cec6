-- Vectors over a field as functions of the column, and the spans of rows. A row of a form is a vector with
-- the number of its pivot before it; a span is that of vectors.
--
-- less f v c b: v - c b
-- row_vectors rows: the vectors of rows with pivots
-- IsInSpan f rows v: v is a sum of multiples of the rows
-- IsSubspace f P: P holds 0, sums and multiples
-- HasRows P rows: P holds each of the rows
-- AreSame P Q: the two hold the same vectors
use Rattle.std.specs.Prelude.{◌≡◌, ◌↔◌, ℕ, List, [], ◌∷◌}
use Rattle.cyclo24.specs.FieldOn.{FieldOn}

-- v - c b
abbrev pub less : {K : Type 0} → FieldOn K → (ℕ → K) → K → (ℕ → K) → ℕ → K
less f v c b = λ j. f.plus (v j) (f.neg (f.times c (b j)))

-- the vectors of rows with pivots
abbrev pub row_vectors : {K : Type 0} → List (ℕ × (ℕ → K)) → List (ℕ → K)
row_vectors [] = []
row_vectors (r ∷ rs) = r.1 ∷ row_vectors rs

-- v is a sum of multiples of the rows
abbrev pub IsInSpan : {K : Type 0} → FieldOn K → List (ℕ → K) → (ℕ → K) → Type 0
IsInSpan {K} f [] v = (j : ℕ) → v j ≡ f.nought
IsInSpan {K} f (r ∷ rs) v = (c : K) × IsInSpan f rs (less f v c r)

-- a set of vectors that holds 0, sums and multiples
pub record IsSubspace {K : Type 0} (f : FieldOn K) (P : (ℕ → K) → Type 0) : Type 0 where
  pub has_nought : P (λ _. f.nought)
  pub has_plus : (v w : ℕ → K) → P v → P w → P (λ j. f.plus (v j) (w j))
  pub has_times : (c : K) (v : ℕ → K) → P v → P (λ j. f.times c (v j))

-- a set that holds each of the rows
abbrev pub HasRows : {K : Type 0} → ((ℕ → K) → Type 0) → List (ℕ → K) → Type 0
HasRows P [] = Unit {0}
HasRows P (r ∷ rs) = P r × HasRows P rs

-- the two hold the same vectors
abbrev pub AreSame : {V : Type 0} → (V → Type 0) → (V → Type 0) → Type 0
AreSame {V} P Q = (v : V) → P v ↔ Q v
