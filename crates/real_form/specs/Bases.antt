-- Bases of real forms, and matrices in them.
--
-- row_at f rs m: row m of a list of rows with pivots; pivot_at rs i: pivot i
-- unit_rows f i k: the unit vectors of the places i, .., i + k - 1, each with its place
-- matrix_of f rs B q i m: entry i of the coordinates of the image of row m under B(q)
-- AreMatricesIn p n D order rs A: column m of A(q) holds the coordinates of the image of row m
use Rattle.std.specs.Prelude.{◌≡◌, ℕ, suc, zero, ◌<◌, List, [], ◌∷◌, length}
use Rattle.cyclo24.specs.FieldOn.{FieldOn}
use Rattle.lin_alg.specs.Equations.{unit_vector}
use Rattle.lin_alg.specs.Solving.{combination}
use Rattle.real_form.specs.Parts.{Parts, real_image}

-- row m, and 0 past the end
abbrev pub row_at : {K : Type 0} → FieldOn K → List (ℕ × (ℕ → K)) → ℕ → ℕ → K
row_at f [] m = λ _. f.nought
row_at f (r ∷ rs) zero = r.1
row_at f (r ∷ rs) (suc m) = row_at f rs m

-- pivot i
abbrev pub pivot_at : {V : Type 0} → List (ℕ × V) → ℕ → ℕ
pivot_at [] i = 0
pivot_at (r ∷ rs) zero = r.0
pivot_at (r ∷ rs) (suc i) = pivot_at rs i

-- k unit vectors from place i on, each with its place
abbrev pub unit_rows : {K : Type 0} → FieldOn K → ℕ → ℕ → List (ℕ × (ℕ → K))
unit_rows f i zero = []
unit_rows f i (suc k) = (i, unit_vector f i) ∷ unit_rows f (suc i) k

-- the image of row m, at pivot i
abbrev pub matrix_of : {K : Type 0} → FieldOn K → List (ℕ × (ℕ → K)) → (ℕ → (ℕ → K) → ℕ → K) → ℕ → ℕ → ℕ → K
matrix_of f rs B q i m = B q (row_at f rs m) (pivot_at rs i)

-- the image of row m is the combination of the rows with column m of A(q)
abbrev pub AreMatricesIn : {Z K : Type 0} → Parts Z K → ℕ → (ℕ → ℕ → ℕ → Z) → ℕ → List (ℕ × (ℕ → K)) → (ℕ → ℕ → ℕ → K) → Type 0
AreMatricesIn p n D order rs A =
    (q m : ℕ) → q < order → m < length rs → (j : ℕ) → combination p.real (length rs) (λ i. A q i m) (row_at p.real rs) j ≡ real_image p n D q (row_at p.real rs m) j
