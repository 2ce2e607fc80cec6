use Rattle.std.proofs.Common.{◌<◌, ℕ}
use Rattle.couple.specs.Found.{IsArmMoved}
use Rattle.couple.proofs.both.first_rows.Given as goal

abbrev pub invariant-loop-arm : goal.invariant-loop-arm
invariant-loop-arm l = (k : ℕ) → k < l.arm → IsArmMoved l.quotient l.induced k
