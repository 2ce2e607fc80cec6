use Rattle.std.proofs.Common.{◌≤◌, ◌-◌, length}
use Rattle.space_ops.specs.Closing.{IsClosing}
use Rattle.space_ops.proofs.closing.hold_all.Given as goal

abbrev pub invariant-loop-next : goal.invariant-loop-next
invariant-loop-next l = record {
  closing : IsClosing l.steps l.lattice l.held.items l.conflicts l.next 0;
  within : l.next ≤ length l.held.items;
}

abbrev pub decreases-loop-next : goal.decreases-loop-next
decreases-loop-next l = 48 - l.next
