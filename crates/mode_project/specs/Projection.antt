-- Projections by weights, their ranges, and sums of ranges.
--
-- projection f s w: P, the sum of w q times M(q) over all elements q
-- IsInRange f d a v: v, of d entries, is a times some vector
-- IsInSum f s ws v: v is a sum of vectors, one of the range of each P
-- cut f d v: the first d entries of v; column_of f d a k: those of column k of a
-- IsReducedFormOf f d V rs: the rows are the one reduced form whose span is V
use Rattle.std.specs.Prelude.{◌≡◌, ℕ, ◌<◌, List, [], ◌∷◌, ltb, if◌then◌else◌}
use Rattle.cyclo24.specs.FieldOn.{FieldOn}
use Rattle.lin_alg.specs.Spans.{row_vectors, less, IsInSpan, AreSame}
use Rattle.lin_alg.specs.Reduced.{IsWithin, IsForm}
use Rattle.lin_alg.specs.Matrices.{apply, weighted}
use Rattle.mode_project.specs.AtomSpace.{AtomSpace, size_of, matrix_of}

abbrev pub projection : {K : Type 0} → FieldOn K → AtomSpace → (ℕ → K) → ℕ → ℕ → K
projection f s w = weighted f s.group.order w (matrix_of f s)

abbrev pub IsInRange : {K : Type 0} → FieldOn K → ℕ → (ℕ → ℕ → K) → (ℕ → K) → Type 0
IsInRange {K} f d a v = IsWithin f d v × ((u : ℕ → K) × ((i : ℕ) → i < d → v i ≡ apply f d a u i))

-- v is u, of the range of the first P, and the rest of v, of the sum of the other ranges
abbrev pub IsInSum : {K : Type 0} → FieldOn K → AtomSpace → List (ℕ → K) → (ℕ → K) → Type 0
IsInSum {K} f s [] v = (i : ℕ) → v i ≡ f.nought
IsInSum {K} f s (w ∷ ws) v = (u : ℕ → K) × IsInRange f (size_of s) (projection f s w) u × IsInSum f s ws (less f v f.unit u)

abbrev pub cut : {K : Type 0} → FieldOn K → ℕ → (ℕ → K) → ℕ → K
cut f d v i = if ltb i d then v i else f.nought

abbrev pub column_of : {K : Type 0} → FieldOn K → ℕ → (ℕ → ℕ → K) → ℕ → ℕ → K
column_of f d a k = cut f d (λ i. a i k)

pub record IsReducedFormOf {K : Type 0} (f : FieldOn K) (d : ℕ) (V : (ℕ → K) → Type 0) (rs : List (ℕ × (ℕ → K))) : Type 0 where
  pub form : IsForm f d rs
  pub spans : AreSame (IsInSpan f (row_vectors rs)) V
