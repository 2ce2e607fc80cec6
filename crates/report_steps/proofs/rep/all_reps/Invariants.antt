use Rattle.std.proofs.Common.{◌≡◌, take, drop, length}
use Rattle.std.specs.Vec.Iter.{into_iter_items, into_iter_len}
use Rattle.report_steps.specs.Held.{IsCellHeld, IsRepHeld}
use Rattle.report_steps.specs.IrrepSteps.{Each}
use Rattle.report_steps.proofs.rep.all_reps.Given as goal

abbrev pub invariant-loop-irrep : goal.invariant-loop-irrep
invariant-loop-irrep l = record {
  done : Each (IsRepHeld l.quotient) (take l.irrep-index l.irreps) l.reps.items;
  left : Each (IsCellHeld l.quotient) (drop l.irrep-index l.irreps) (into_iter_items l.stars);
  count : into_iter_len l.stars ≡ length (into_iter_items l.stars);
}
