use Rattle.std.proofs.Common.{◌≤◌, length}
use Rattle.space_ops.specs.Closing.{IsClosing}
use Rattle.space_ops.proofs.closing.hold_products.Given as goal

abbrev pub invariant-loop-step : goal.invariant-loop-step
invariant-loop-step l = record {
  closing : IsClosing l.steps l.lattice l.held.items l.conflicts l.next l.step-index;
  grown : length l.initial.held.items ≤ length l.held.items;
}
