use Rattle.std.proofs.Common.{◌≡◌, ℕ, ◌<◌, true, get_or}
use Rattle.small_rep.specs.SmallRep.{is_listed}
use Rattle.small_rep.proofs.missing.first_missing.Given as goal

abbrev pub invariant-loop-rotation : goal.invariant-loop-rotation
invariant-loop-rotation l = (i : ℕ) → i < l.rotation-index → is_listed l.rotations (get_or l.little i 0) ≡ true
