-- What the parts of the code of a direction's modes give.
--
-- IsWideLeft f s h m b: forming or inserting the differences M(h) b - b of m vectors, entry by entry, for each of the elements h
-- combined f m x b: the combinations of m vectors with the rows of x as factors; IsWideCombined: forming or inserting the first n of them
-- IsModeTable f value s w h m: the rows of the table are the modes of the irrep of weights w for the stabiliser h
use Rattle.std.specs.Prelude.{◌≡◌, ℕ, ◌<◌, ◌*◌, ◌⊎◌, IsTrue, List, length, slice_index}
use Rattle.cyclo24.specs.FieldOn.{FieldOn}
use Rattle.cyclo24.specs.ExactField.{ExactField, Value}
use Rattle.lin_alg.specs.Equations.{dot}
use Rattle.lin_alg.specs.Matrices.{apply}
use Rattle.lin_alg.specs.Matrix.{MatrixView, entry, IsWideDot}
use Rattle.lin_alg.specs.Solving.{IsWideIndependent}
use Rattle.lin_alg.specs.Spans.{row_vectors}
use Rattle.mode_project.specs.AtomSpace.{AtomSpace, size_of, matrix_of}
use Rattle.mode_project.specs.DirectionModes.{AreModesOf}
use Rattle.mode_project.specs.Modes.{vector_at}
use Rattle.mode_project.specs.Wide.{IsWideImage, left_row}

abbrev pub IsWideLeft : (f : ExactField) → AtomSpace → List ℕ → ℕ → (ℕ → ℕ → Value f) → Type 0
IsWideLeft f s h m b =
    ((n k : ℕ) × (n < length h) × (k < m)
    × (IsWideImage f s (slice_index h n) (b k)
    ⊎ ((i : ℕ) × (i < size_of s) × IsTrue (f.is_wide_difference (apply f.laws (size_of s) (matrix_of f.laws s (slice_index h n)) (b k) i) (b k i)))))
    ⊎ IsWideIndependent f (length h * size_of s) (left_row f.laws s h b)

abbrev pub combined : {K : Type 0} → FieldOn K → ℕ → (ℕ → ℕ → K) → (ℕ → ℕ → K) → ℕ → ℕ → K
combined f m x b n i = dot f m (x n) (λ k. b k i)

abbrev pub IsWideCombined : (f : ExactField) → ℕ → ℕ → ℕ → (ℕ → ℕ → Value f) → (ℕ → ℕ → Value f) → Type 0
IsWideCombined f d count m x b =
    ((n i : ℕ) × (n < count) × (i < d) × IsWideDot f m (x n) (λ k. b k i)) ⊎ IsWideIndependent f count (combined f.laws m x b)

abbrev pub IsModeTable : {A K : Type 0} → FieldOn K → (A → K) → AtomSpace → (ℕ → K) → List ℕ → MatrixView A → Type 0
IsModeTable {A} {K} f value s w h m =
    (rs : List (ℕ × (ℕ → K))) × AreModesOf f s w h rs × (length rs ≡ m.rows) × ((i : ℕ) → i < m.rows → entry f value m i ≡ vector_at f (row_vectors rs) i)
