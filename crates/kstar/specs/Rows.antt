-- The rows from which a star is made.
--
-- AreNear rows: each entry is at most 10,368 in absolute value
-- AreAllImages p k n rows: the rows are the images of k under the first n operations
-- AreRowsAt rows numbers n chosen: the chosen rows have the first n of these numbers
-- IsStarOfRows rows cell k s: s is the star of k on this lattice, where the rows are the images of k
use Rattle.std.specs.Prelude.{◌≡◌, ℕ, ◌<◌, ℤ, List, [], length, slice_index_or, slice_index}
use Rattle.space_ops.specs.declared.lattice.Lattice.{Lattice}
use Rattle.space_ops.specs.Matrix.{Vector}
use Rattle.space_ops.specs.Op.{IsShiftWithin}
use Rattle.space_ops.specs.Group.{Parent}
use Rattle.kstar.specs.WaveVector.{AreEquivalent}
use Rattle.algebra.specs.RisingLists.{IsRisingListOf}
use Rattle.kstar.specs.Star.{image_at, row_in, WaveStar}

-- each entry is at most 10,368 in absolute value
abbrev pub AreNear : List (List ℤ) → Type 0
AreNear rows = (i : ℕ) → i < length rows → IsShiftWithin 10368 (slice_index_or rows i [])

-- the rows are the images of k under the first n operations
pub record AreAllImages (p : Parent) (k : Vector ℤ) (n : ℕ) (rows : List (List ℤ)) : Type 0 where
  pub count : length rows ≡ n
  pub image : (i : ℕ) → i < n → row_in rows i ≡ image_at p k i

-- the first n of the numbers, as rows of a list
pub record AreRowsAt (rows : List (List ℤ)) (numbers : List ℕ) (n : ℕ) (chosen : List (List ℤ)) : Type 0 where
  pub count : length chosen ≡ n
  pub row : (i : ℕ) → i < n → slice_index_or chosen i [] ≡ slice_index_or rows (slice_index numbers i) []

-- s is the star of k on this lattice, where the rows are the images of k
pub record IsStarOfRows (rows : List (List ℤ)) (cell : Lattice) (k : Vector ℤ) (s : WaveStar) : Type 0 where
  pub lattice : s.lattice ≡ cell
  pub row : s.row ≡ k
  pub little : IsRisingListOf (length rows) (λ r. AreEquivalent cell (row_in rows r) k) s.little
  pub by : IsRisingListOf (length rows) (λ r. (t : ℕ) → t < r → AreEquivalent cell (row_in rows t) (row_in rows r) → ⊥) s.by
  pub arms : AreRowsAt rows s.by (length s.by) s.arms
