-- What the parts of a cell are, and what the code finds in them.
--
-- AreCellParts cell parts: the matrix of a cell in twelfths, its adjugate, the absolute value of its determinant
-- column_of rows j: column j of a matrix
-- IsMultipleUnder n a t: the coordinates of a t are multiples of n
-- HasForeignColumnIn lattice rows: a column is no lattice translation
-- HasForeignEdgeIn d size adjugate: an edge of the supercell is no whole combination of the columns
-- IsBadParts s parts: the determinant is 0, or one of these
-- IsShiftUnder size adjugate t found: t in units where it is a whole combination of the columns, else None
-- AreShiftsUnder size adjugate ts n shifts: these for the first n of a list of translations
-- IsFrameCause s cell error: the cell is bad
use Rattle.std.specs.Prelude.{◌≡◌, ⊤, ◌⊎◌, ℕ, ◌<◌, ℤ, unsigned_abs, List, [], ◌∷◌, length, Option, None, MatchOption, slice_index_or}
use Rattle.algebra.specs.Multiples.{IsMultiple}
use Rattle.algebra.specs.Whole.{whole}
use Rattle.iso_text.specs.declared.sections.CellText.{CellText}
use Rattle.space_ops.specs.declared.lattice.Lattice.{Lattice}
use Rattle.space_ops.specs.Matrix.{Matrix, Vector, image_under, adjugate, determinant}
use Rattle.space_ops.specs.Op.{number_at, row_at, vector_of, shift_of, matrix_of, IsRotationWithin}
use Rattle.space_ops.specs.Words.{IsLatticeVector}
use Rattle.super_group.specs.Quotient.{SupercellGroup, translation_at}
use Rattle.wyckoff.specs.Places.{in_units}
use Rattle.distort_match.specs.declared.cells.CellParts.{CellParts}
use Rattle.distort_match.specs.declared.errors.MatchError.{MatchError}
use Rattle.distort_match.specs.declared.errors.MatchError.TheVariants.{BadCell, NoMemory}
use Rattle.distort_match.specs.ListedCells.{cell_matrix, supercell_edge}
use Rattle.distort_match.specs.Outcomes.{HasBadCell}

-- the matrix of a cell in twelfths, its adjugate, and the absolute value of its determinant
pub record AreCellParts (cell : CellText) (parts : CellParts) : Type 0 where
  pub rows : matrix_of parts.rows ≡ cell_matrix cell
  pub adjugate_is : matrix_of parts.adjugate ≡ adjugate whole (cell_matrix cell)
  pub size : parts.size ≡ unsigned_abs (determinant whole (cell_matrix cell))
  pub near_rows : IsRotationWithin 288 parts.rows
  pub near_adjugate : IsRotationWithin 165888 parts.adjugate

-- column j of a matrix
abbrev pub column_of : List (List ℤ) → ℕ → List ℤ
column_of rows j = number_at (row_at rows 0) j ∷ number_at (row_at rows 1) j ∷ number_at (row_at rows 2) j ∷ []

-- the product of a matrix with a column has coordinates that are multiples of n
abbrev pub IsMultipleUnder : ℕ → Matrix ℤ → Vector ℤ → Type 0
IsMultipleUnder n a t = IsMultiple n (image_under whole a t).x × IsMultiple n (image_under whole a t).y × IsMultiple n (image_under whole a t).z

abbrev pub HasForeignColumnIn : Lattice → List (List ℤ) → Type 0
HasForeignColumnIn lattice rows = (j : ℕ) × (j < 3) × (IsLatticeVector lattice (vector_of (column_of rows j)) → ⊥)

abbrev pub HasForeignEdgeIn : List ℕ → ℕ → List (List ℤ) → Type 0
HasForeignEdgeIn d size adjugate = (i : ℕ) × (i < 3) × (IsMultipleUnder size (matrix_of adjugate) (supercell_edge d i) → ⊥)

abbrev pub IsBadParts : SupercellGroup → CellParts → Type 0
IsBadParts s parts = (parts.size ≡ 0) ⊎ (HasForeignColumnIn s.parent.lattice parts.rows ⊎ HasForeignEdgeIn s.d parts.size parts.adjugate)

-- in units, where it is a whole combination
abbrev pub IsShiftUnder : ℕ → List (List ℤ) → Vector ℤ → Option (List ℤ) → Type 0
IsShiftUnder size adjugate t found =
    MatchOption found (IsMultipleUnder size (matrix_of adjugate) t → ⊥) (λ u. IsMultipleUnder size (matrix_of adjugate) t × (u ≡ shift_of (in_units t)))

-- one of them for each translation
pub record AreShiftsUnder (size : ℕ) (adjugate ts : List (List ℤ)) (n : ℕ) (shifts : List (Option (List ℤ))) : Type 0 where
  pub count : length shifts ≡ n
  pub each : (t : ℕ) → t < n → IsShiftUnder size adjugate (translation_at ts t) (slice_index_or shifts t None)

abbrev pub IsFrameCause : SupercellGroup → Option CellText → MatchError → Type 0
IsFrameCause s cell (BadCell line) = HasBadCell s cell line
IsFrameCause s cell NoMemory = ⊤
IsFrameCause s cell _ = ⊥
