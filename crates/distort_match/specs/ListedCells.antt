-- The cell of the listed places: a lattice of its own, between those of the supercell and of the parent.
--
-- cell_entry cell i j: entry (i, j) of its matrix, in twelfths
-- cell_matrix cell, cell_column cell j: the matrix, and its column j, an edge of the cell, in twelfths of a cell edge of the parent
-- IsCombination cell t: t is a whole combination of the columns
-- supercell_edge d i: the edge of the supercell along axis i, in twelfths
-- IsBadCell s cell: the determinant is 0, or a column is no lattice translation of the parent, or an edge of the supercell is no whole combination of the columns
-- IsCarried cell y x: the place y in the cell is the place x in the parent
use Rattle.std.specs.Prelude.{◌≡◌, ◌⊎◌, ℕ, zero, suc, ◌<◌, ◌/◌, ℤ, pos, ◌*ℤ◌, List, [], slice_index_or}
use Rattle.algebra.specs.Whole.{whole}
use Rattle.iso_text.specs.declared.numbers.Frac.{Frac}
use Rattle.iso_text.specs.declared.sections.CellText.{CellText}
use Rattle.space_ops.specs.Matrix.{Matrix, Vector, image_under, determinant}
use Rattle.space_ops.specs.Op.{vector_of}
use Rattle.space_ops.specs.Words.{vector_difference, cell_edges, IsLatticeVector}
use Rattle.super_group.specs.Supercell.{edge}
use Rattle.super_group.specs.Quotient.{SupercellGroup}

-- a fraction over a divisor of 12, in twelfths
abbrev pub twelfths_of : Frac → ℤ
twelfths_of v = pos (12 / v.den) *ℤ v.num

abbrev pub cell_entry : CellText → ℕ → ℕ → ℤ
cell_entry cell i j = twelfths_of (slice_index_or (slice_index_or cell.rows i []) j (record { num = pos 0; den = 1 }))

abbrev pub cell_matrix : CellText → Matrix ℤ
cell_matrix cell = record {
  r00 = cell_entry cell 0 0;
  r01 = cell_entry cell 0 1;
  r02 = cell_entry cell 0 2;
  r10 = cell_entry cell 1 0;
  r11 = cell_entry cell 1 1;
  r12 = cell_entry cell 1 2;
  r20 = cell_entry cell 2 0;
  r21 = cell_entry cell 2 1;
  r22 = cell_entry cell 2 2;
}

abbrev pub cell_column : CellText → ℕ → Vector ℤ
cell_column cell j = record { x = cell_entry cell 0 j; y = cell_entry cell 1 j; z = cell_entry cell 2 j }

-- the columns, each a whole number of times
pub record IsCombination (cell : CellText) (t : Vector ℤ) : Type 0 where
  pub times : Vector ℤ
  pub is : t ≡ image_under whole (cell_matrix cell) times

-- so many cell edges of the parent along one axis
abbrev pub supercell_edge : List ℕ → ℕ → Vector ℤ
supercell_edge d zero = record { x = edge d 0; y = pos 0; z = pos 0 }
supercell_edge d (suc zero) = record { x = pos 0; y = edge d 1; z = pos 0 }
supercell_edge d (suc (suc i)) = record { x = pos 0; y = pos 0; z = edge d 2 }

abbrev pub HasForeignColumn : SupercellGroup → CellText → Type 0
HasForeignColumn s cell = (j : ℕ) × (j < 3) × (IsLatticeVector s.parent.lattice (cell_column cell j) → ⊥)

abbrev pub HasForeignEdge : SupercellGroup → CellText → Type 0
HasForeignEdge s cell = (i : ℕ) × (i < 3) × (IsCombination cell (supercell_edge s.d i) → ⊥)

abbrev pub IsBadCell : SupercellGroup → CellText → Type 0
IsBadCell s cell = (determinant whole (cell_matrix cell) ≡ pos 0) ⊎ (HasForeignColumn s cell ⊎ HasForeignEdge s cell)

-- x is the matrix times y after the origin, here times twelve
abbrev pub IsCarried : CellText → Vector ℤ → Vector ℤ → Type 0
IsCarried cell y x = cell_edges (vector_difference x (vector_of cell.origin)) ≡ image_under whole (cell_matrix cell) y
