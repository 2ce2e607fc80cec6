use Rattle.std.proofs.Common.{refl, sym, subst}
use Rattle.std.specs.List.{All}
use Rattle.std.proofs.lemmas.Result.{IfOk-weaker}
use Rattle.super_group.specs.Quotient.{SupercellGroup}
use Rattle.mode_project.specs.AtomSpace.{IsOrbit, displacements}
use Rattle.mode_project.specs.Weights.{AreWeights, exact_weights}
use Rattle.amp_report.specs.AmpsHeldLaws.{answers-modes}
use Rattle.amp_report.proofs.modes.modes_at.Goals as goal

pub all_modes-requires-clause-orbits : goal.all_modes-requires-clause-orbits
all_modes-requires-clause-orbits c = subst (λ (q : SupercellGroup). All (IsOrbit q) c.args.orbits.now) (sym c.quotient.ensures) c.requires.orbits.1

pub all_modes-requires-clause-weights : goal.all_modes-requires-clause-weights
all_modes-requires-clause-weights c = subst (λ (q : SupercellGroup). AreWeights q c.in_ok-weights.weights) (sym c.quotient.ensures) c.in_ok-weights.ensures.lists

pub returns : goal.returns
returns c =
    IfOk-weaker c.all_modes.result _ _
    (answers-modes displacements 5 3 (λ q o. refl) c.args.file.now.divided c.quotient.result.now c.args.orbits.now (exact_weights c.in_ok-weights.weights) c.quotient.ensures c.requires.orbits c.in_ok-weights.ensures.of) c.all_modes.ensures
