use Rattle.std.proofs.Common.{◌≡◌, take, length, map}
use Rattle.mode_project.specs.Weights.{exact_weights, weights_in}
use Rattle.extra_modes.specs.ExtraSpace.{extra_space}
use Rattle.report_steps.specs.IrrepSteps.{Each}
use Rattle.mode_report.specs.Held.{AreModesBy}
use Rattle.extra_report.proofs.orbit_modes.all_modes.Given as goal

abbrev pub invariant-loop-i : goal.invariant-loop-i
invariant-loop-i l = record {
  end : l.i-end ≡ length l.orbits;
  done : Each (AreModesBy (extra_space l.nature) l.quotient (exact_weights (map weights_in l.induced))) (take l.i l.orbits) l.all.items;
}
