use Rattle.std.proofs.Common.{◌≡◌, take, drop, length}
use Rattle.std.specs.Vec.Iter.{into_iter_items, into_iter_len}
use Rattle.report_steps.specs.Held.{IsRepHeld, IsInducedHeld}
use Rattle.report_steps.specs.IrrepSteps.{Each}
use Rattle.report_steps.proofs.induction.all_induced.Given as goal

abbrev pub invariant-loop-irrep : goal.invariant-loop-irrep
invariant-loop-irrep l = record {
  done : Each (IsInducedHeld l.quotient) (take l.irrep-index l.irreps) l.all.items;
  left : Each (IsRepHeld l.quotient) (drop l.irrep-index l.irreps) (into_iter_items l.reps);
  count : into_iter_len l.reps ≡ length (into_iter_items l.reps);
}
