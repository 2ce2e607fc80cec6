use Rattle.std.proofs.Common.{ℕ, ◌<◌}
use Rattle.space_ops.specs.Op.{vector_of}
use Rattle.kstar.specs.WaveVector.{HasPhase}
use Rattle.kstar.specs.Star.{row_in}
use Rattle.kstar.proofs.phase.first_bad.Given as goal

abbrev pub invariant-loop-vector : goal.invariant-loop-vector
invariant-loop-vector l = (i : ℕ) → i < l.vector-index → HasPhase (vector_of l.row) (row_in l.vectors i)
