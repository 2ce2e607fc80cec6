use Rattle.std.proofs.Common.{ℕ, ◌<◌}
use Rattle.space_ops.specs.Words.{op_at}
use Rattle.space_ops.specs.Closing.{KeepsLattice}
use Rattle.space_ops.proofs.keeping.all_keep_lattice.Given as goal

abbrev pub invariant-loop-op : goal.invariant-loop-op
invariant-loop-op l = (i : ℕ) → i < l.op-index → KeepsLattice l.lattice (op_at l.ops i).rot
