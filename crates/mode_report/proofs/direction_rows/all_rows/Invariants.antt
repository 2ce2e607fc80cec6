use Rattle.std.proofs.Common.{◌≡◌, take, length}
use Rattle.mode_project.specs.Weights.{exact_weights}
use Rattle.report_steps.specs.IrrepSteps.{Each}
use Rattle.mode_report.specs.DirectionHeld.{AreOrbitRows}
use Rattle.mode_report.proofs.direction_rows.all_rows.Given as goal

abbrev pub invariant-loop-i : goal.invariant-loop-i
invariant-loop-i l = record {
  end : l.i-end ≡ length l.orbits;
  done : Each (AreOrbitRows l.quotient l.stab (exact_weights l.weights)) (take l.i l.orbits) l.all.items;
}
