use Rattle.std.proofs.Common.{take}
use Rattle.report_steps.specs.Held.{IsStarHeld}
use Rattle.report_steps.specs.IrrepSteps.{Each}
use Rattle.report_steps.proofs.star.all_stars.Given as goal

abbrev pub invariant-loop-irrep : goal.invariant-loop-irrep
invariant-loop-irrep l = Each (IsStarHeld l.group) (take l.irrep-index l.irreps) l.stars.items
