use Rattle.std.proofs.Common.{ℕ, ◌<◌, get_or, []}
use Rattle.algebra.specs.Whole.{whole}
use Rattle.space_ops.specs.Matrix.{image_under}
use Rattle.space_ops.specs.Op.{matrix_of, vector_of}
use Rattle.space_ops.specs.Words.{IsLatticeVector}
use Rattle.space_ops.proofs.keeping.are_kept.Given as goal

abbrev pub invariant-loop-vector : goal.invariant-loop-vector
invariant-loop-vector l = (i : ℕ) → i < l.vector-index → IsLatticeVector l.lattice (image_under whole (matrix_of l.rot) (vector_of (get_or l.vectors i [])))
