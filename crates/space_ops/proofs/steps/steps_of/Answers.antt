use Rattle.std.proofs.Common.{◌≡◌, ap, subst, ◌+◌, ◌*◌, List, [], ◌∷◌, ◌++◌, length, arith}
use Rattle.std.proofs.lemmas.List.{get_or_default}
use Rattle.space_ops.specs.declared.op.Op.{Op}
use Rattle.algebra.specs.Whole.{whole}
use Rattle.space_ops.specs.Seitz.{seitz_inverse}
use Rattle.space_ops.specs.Op.{seitz_of, identity_op, IsSmallMatrix, IsUnimodular}
use Rattle.space_ops.specs.LeastShift.{IsInCell}
use Rattle.space_ops.specs.Closing.{AddsSteps}
use Rattle.space_ops.proofs.StepLemmas.{steps-more, large-inverse}
use Rattle.space_ops.proofs.ClosingLemmas.{length_more}
use Rattle.space_ops.proofs.steps.steps_of.Goals as goal

pub add_steps-requires-clause-unimodular : goal.add_steps-requires-clause-unimodular
add_steps-requires-clause-unimodular c =
    let k = c.loop-generator.generator-index in
    subst (λ (o : Op). IsUnimodular (seitz_of o).rot) (get_or_default c.args.generators.now k identity_op _ c.loop-generator-test.true) (c.requires.unimodular k c.loop-generator-test.true)

pub add_steps-requires-clause-in_cell : goal.add_steps-requires-clause-in_cell
add_steps-requires-clause-in_cell c =
    let k = c.loop-generator.generator-index in
    subst (λ (o : Op). IsInCell (seitz_of o).shift) (get_or_default c.args.generators.now k identity_op _ c.loop-generator-test.true) (c.requires.in_cell k c.loop-generator-test.true)

pub returns-in-Err-clause-err : goal.returns-in-Err-clause-err
returns-in-Err-clause-err c =
    let k = c.loop-generator.generator-index in (
      c.in-Err.ensures.err.0,
      large-inverse c.args.generators.now c.args.lattice k c.loop-generator-test.true
          (subst (λ (o : Op). IsSmallMatrix (seitz_inverse whole (seitz_of o)).rot → ⊥) (get_or_default c.args.generators.now k _ identity_op c.loop-generator-test.true) c.in-Err.ensures.err.1),
    )

two_more : (S S' : List Op) (a b : Op) (k : _) → S' ≡ (S ++ a ∷ []) ++ b ∷ [] → length S ≡ 2 * k → length S' ≡ 2 * (k + 1)
two_more S S' a b k e f =
    let g = ap length e in
    let h = length_more (S ++ a ∷ []) b in
    let i = length_more S a in
    omega (arith, f, g, h, i)

pub loop-generator-preserved : goal.loop-generator-preserved
loop-generator-preserved c =
    let k = c.loop-generator.generator-index in
    let S = c.loop-generator.steps.items in
    let a =
    subst (λ (o : Op). AddsSteps c.args.lattice (seitz_of o) S c.add_steps.new.steps.items) (get_or_default c.args.generators.now k _ identity_op c.loop-generator-test.true) c.in-Ok.ensures.ok in
    record {
      steps = steps-more c.args.generators.now c.args.lattice k S c.add_steps.new.steps.items c.requires c.loop-generator-test.true c.loop-generator.invariant.steps a;
      count = two_more S c.add_steps.new.steps.items a.first a.second k a.added c.loop-generator.invariant.count;
    }
