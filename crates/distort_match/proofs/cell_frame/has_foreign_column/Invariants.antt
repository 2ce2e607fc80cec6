use Rattle.std.proofs.Common.{ℕ, ◌<◌}
use Rattle.space_ops.specs.Op.{vector_of}
use Rattle.space_ops.specs.Words.{IsLatticeVector}
use Rattle.distort_match.specs.CellPieces.{column_of}
use Rattle.distort_match.proofs.cell_frame.has_foreign_column.Given as goal

abbrev pub invariant-loop-j : goal.invariant-loop-j
invariant-loop-j l = (i : ℕ) → i < l.j → IsLatticeVector l.quotient.parent.lattice (vector_of (column_of l.rows i))
