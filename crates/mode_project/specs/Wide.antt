-- Where the numbers of the modes of an orbit are wide. The columns of the first atom are those from 0 up to the numbers
-- that an atom has.
--
-- IsWideColumn f s w: a sum over all elements that forms a column of P for the first atom
-- IsWideImage f s q c: M(q) c for a vector c
-- IsWideTurned f s c: a sum of the entries of M(q) c k, for vectors c k, with the entries of the matrix of an element as factors
-- IsWideRange f s w: forming the columns of P from those of the first atom, or inserting them in order into an empty form
-- IsWideModes f s ws: the same for one of the irreps, or inserting the reduced rows of the ranges in order into one form
-- left_row, free_rows: the rows of the two eliminations for a direction
-- IsWideDirection f s h bs: finding the combinations of the rows bs that the elements h leave as they are
-- IsWideModesOf f s w h: the modes of an irrep for a direction
use Rattle.std.specs.Prelude.{ℕ, ◌<◌, ◌≤◌, ◌+◌, ◌*◌, ◌/◌, ◌%◌, ◌⊎◌, IsTrue, List, length, take, slice_index}
use Rattle.cyclo24.specs.FieldOn.{FieldOn}
use Rattle.cyclo24.specs.ExactField.{ExactField, Value}
use Rattle.cyclo24.specs.Numerals.{of_whole}
use Rattle.lin_alg.specs.Spans.{row_vectors, IsInSpan}
use Rattle.lin_alg.specs.Reduced.{free_columns}
use Rattle.lin_alg.specs.Equations.{dot, free_vector}
use Rattle.lin_alg.specs.Matrices.{apply}
use Rattle.lin_alg.specs.Matrix.{IsWideDot}
use Rattle.lin_alg.specs.Solving.{plain_rows, IsWideIndependent}
use Rattle.mode_project.specs.AtomSpace.{AtomSpace, size_of, matrix_of}
use Rattle.mode_project.specs.Projection.{projection, IsInRange, column_of, IsReducedFormOf}
use Rattle.mode_project.specs.Modes.{AreRangeRows, vector_at}

abbrev pub IsWideColumn : (f : ExactField) → AtomSpace → (ℕ → Value f) → Type 0
IsWideColumn f s w = (r b : ℕ) × (r < size_of s) × (b < s.each) × IsWideDot f s.group.order (λ q. matrix_of f.laws s q r b) w

-- row a of the matrix of q times the numbers of atom i
abbrev pub IsWideImage : (f : ExactField) → AtomSpace → ℕ → (ℕ → Value f) → Type 0
IsWideImage f s q c =
    (i a : ℕ) × (i < s.atoms) × (a < s.each) × IsWideDot f s.each (λ b. of_whole f.laws (s.turn q a b)) (λ b. c (i * s.each + b))

-- the entries in row r of M(q) c 0, M(q) c 1, .. times column a of the matrix of p
abbrev pub IsWideTurned : (f : ExactField) → AtomSpace → (ℕ → ℕ → Value f) → Type 0
IsWideTurned f s c =
    (q p r a : ℕ) × (q < s.group.order) × (p < s.group.order) × (r < size_of s) × (a < s.each)
    × IsWideDot f s.each (λ b. of_whole f.laws (s.turn p b a)) (λ b. apply f.laws (size_of s) (matrix_of f.laws s q) (c b) r)

abbrev pub IsWideRange : (f : ExactField) → AtomSpace → (ℕ → Value f) → Type 0
IsWideRange f s w =
    let columns = column_of f.laws (size_of s) (projection f.laws s w) in
    IsWideColumn f s w
    ⊎ (((q b : ℕ) × (q < s.group.order) × (b < s.each) × IsWideImage f s q (columns b)) ⊎ (IsWideTurned f s columns ⊎ IsWideIndependent f (size_of s) columns))

abbrev pub IsWideModes : (f : ExactField) → AtomSpace → List (ℕ → Value f) → Type 0
IsWideModes f s ws =
    ((j : ℕ) × (j < length ws) × IsWideRange f s (vector_at f.laws ws j))
    ⊎ ((j : ℕ) × (j ≤ length ws) × ((cs : List (ℕ × (ℕ → Value f))) × AreRangeRows f.laws s 0 (take j ws) cs × IsWideIndependent f (length cs) (vector_at f.laws (row_vectors cs))))

-- row n d + i, for M(h) b - b as columns, of d entries: entry i for element number n of the list
abbrev pub left_row : {K : Type 0} → FieldOn K → AtomSpace → List ℕ → (ℕ → ℕ → K) → ℕ → ℕ → K
left_row f s h b e k =
    let i = e % size_of s in
    f.plus (apply f (size_of s) (matrix_of f s (slice_index h (e / size_of s))) (b k) i) (f.neg (b k i))

-- the free vectors of a form of m columns times the m rows b
abbrev pub free_rows : {K : Type 0} → FieldOn K → ℕ → List (ℕ × (ℕ → K)) → (ℕ → ℕ → K) → ℕ → ℕ → K
free_rows f m rs b n i = dot f m (free_vector f rs (slice_index (free_columns m rs) n)) (λ k. b k i)

-- the images and differences, their elimination, the combinations that solve it, and their elimination
abbrev pub IsWideDirection : (f : ExactField) → AtomSpace → List ℕ → List (ℕ × (ℕ → Value f)) → Type 0
IsWideDirection f s h bs =
    let b = vector_at f.laws (row_vectors bs) in
    let m = length bs in
    let d = size_of s in
    ((n k : ℕ) × (n < length h) × (k < m)
    × (IsWideImage f s (slice_index h n) (b k)
    ⊎ ((i : ℕ) × (i < d) × IsTrue (f.is_wide_difference (apply f.laws d (matrix_of f.laws s (slice_index h n)) (b k) i) (b k i)))))
    ⊎ (IsWideIndependent f (length h * d) (left_row f.laws s h b)
    ⊎ ((rs : List (ℕ × (ℕ → Value f))) × IsReducedFormOf f.laws m (IsInSpan f.laws (plain_rows (left_row f.laws s h b) (length h * d))) rs
    × (((n i : ℕ) × (n < length (free_columns m rs)) × (i < d) × IsWideDot f m (free_vector f.laws rs (slice_index (free_columns m rs) n)) (λ k. b k i))
    ⊎ IsWideIndependent f (length (free_columns m rs)) (free_rows f.laws m rs b))))

abbrev pub IsWideModesOf : (f : ExactField) → AtomSpace → (ℕ → Value f) → List ℕ → Type 0
IsWideModesOf f s w h =
    IsWideRange f s w
    ⊎ ((bs : List (ℕ × (ℕ → Value f))) × IsReducedFormOf f.laws (size_of s) (IsInRange f.laws (size_of s) (projection f.laws s w)) bs × IsWideDirection f s h bs)
