use Rattle.std.proofs.Common.{◌∙◌, sym, subst}
use Rattle.std.specs.List.{All}
use Rattle.std.proofs.lemmas.Result.{IfOk-weaker}
use Rattle.algebra.specs.Subgroup.{IsSubgroup}
use Rattle.super_group.specs.Quotient.{SupercellGroup, quotient_group}
use Rattle.mode_project.specs.AtomSpace.{IsOrbit}
use Rattle.mode_project.specs.Weights.{AreWeights, exact_weights}
use Rattle.mode_report.proofs.AlongLemmas.{answers-along, weights-length}
use Rattle.mode_report.proofs.DirectionLemmas.{weights-count}
use Rattle.mode_report.proofs.along.rows_at.Goals as goal

pub all_rows-requires-clause-orbits : goal.all_rows-requires-clause-orbits
all_rows-requires-clause-orbits c = subst (λ (q : SupercellGroup). All (IsOrbit q) c.args.orbits.now) (sym c.quotient.ensures) c.requires.orbits.1

pub all_rows-requires-clause-weights : goal.all_rows-requires-clause-weights
all_rows-requires-clause-weights c = subst (λ (q : SupercellGroup). AreWeights q c.in_ok-weights.weights) (sym c.quotient.ensures) c.in_ok-weights.ensures.lists

pub all_rows-requires-clause-irreps : goal.all_rows-requires-clause-irreps
all_rows-requires-clause-irreps c =
    c.irrep_count-irreps.ensures ∙ weights-length c.args.file.now.divided (exact_weights c.in_ok-weights.weights) c.in_ok-weights.ensures.of ∙ weights-count c.in_ok-weights.weights

pub all_rows-requires-clause-stabiliser : goal.all_rows-requires-clause-stabiliser
all_rows-requires-clause-stabiliser c = subst (λ (q : SupercellGroup). IsSubgroup (quotient_group q) c.args.stab.now) (sym c.quotient.ensures) c.requires.stabiliser

pub returns : goal.returns
returns c =
    IfOk-weaker c.all_rows.result _ _
    (answers-along c.args.file.now.divided c.quotient.result.now c.args.stab.now c.args.orbits.now (exact_weights c.in_ok-weights.weights) c.quotient.ensures c.requires.orbits c.in_ok-weights.ensures.of) c.all_rows.ensures
