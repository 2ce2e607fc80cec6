use Rattle.std.proofs.Common.{◌≡◌, ℕ, ◌<◌}
use Rattle.space_ops.specs.Op.{matrix_of}
use Rattle.space_ops.specs.Words.{op_at}
use Rattle.space_ops.proofs.find.place_of.Given as goal

abbrev pub invariant-loop-i : goal.invariant-loop-i
invariant-loop-i l = (j : ℕ) → j < l.i → (op_at l.ops j).rot ≡ matrix_of l.rot → ⊥
