use Rattle.std.proofs.Common.{ℕ, ◌<◌}
use Rattle.space_ops.specs.Words.{op_at}
use Rattle.super_group.specs.FirstAxes.{AreZero}
use Rattle.super_group.proofs.joined.are_linked.Given as goal

abbrev pub invariant-loop-r : goal.invariant-loop-r
invariant-loop-r l = (r : ℕ) → r < l.r → AreZero (op_at l.group.ops r).rot l.i l.j
