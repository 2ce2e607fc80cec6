use Rattle.std.proofs.Common.{ℕ, ◌<◌, get_or, []}
use Rattle.space_ops.specs.Op.{vector_of}
use Rattle.algebra.specs.Multiples.{IsMultiple}
use Rattle.kstar.specs.WaveVector.{row_value}
use Rattle.kstar.proofs.equivalence.are_whole.Given as goal

abbrev pub invariant-loop-vector : goal.invariant-loop-vector
invariant-loop-vector l = (i : ℕ) → i < l.vector-index → IsMultiple 144 (row_value (vector_of l.row) (vector_of (get_or l.vectors i [])))
