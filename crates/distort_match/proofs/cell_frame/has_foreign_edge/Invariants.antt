use Rattle.std.proofs.Common.{ℕ, ◌<◌}
use Rattle.space_ops.specs.Op.{matrix_of}
use Rattle.distort_match.specs.ListedCells.{supercell_edge}
use Rattle.distort_match.specs.CellPieces.{IsMultipleUnder}
use Rattle.distort_match.proofs.cell_frame.has_foreign_edge.Given as goal

abbrev pub invariant-loop-axis : goal.invariant-loop-axis
invariant-loop-axis l = (i : ℕ) → i < l.axis → IsMultipleUnder l.parts.size (matrix_of l.parts.adjugate) (supercell_edge l.quotient.d i)
