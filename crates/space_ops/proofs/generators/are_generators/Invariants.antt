use Rattle.std.proofs.Common.{ℕ, ◌<◌}
use Rattle.space_ops.specs.Words.{op_at}
use Rattle.space_ops.specs.Group.{IsGeneratorOp}
use Rattle.space_ops.proofs.generators.are_generators.Given as goal

abbrev pub invariant-loop-op : goal.invariant-loop-op
invariant-loop-op l = (i : ℕ) → i < l.op-index → IsGeneratorOp (op_at l.generators i)
