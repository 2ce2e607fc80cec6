use Rattle.std.proofs.Common.{take}
use Rattle.mode_project.specs.Weights.{exact_weights}
use Rattle.report_steps.specs.IrrepSteps.{Each}
use Rattle.mode_report.specs.DirectionHeld.{AreIrrepRows}
use Rattle.mode_report.proofs.direction_rows.orbit_rows.Given as goal

abbrev pub invariant-loop-j : goal.invariant-loop-j
invariant-loop-j l = Each (AreIrrepRows l.quotient l.stab l.orbit) (take l.j (exact_weights l.weights)) l.all.items
