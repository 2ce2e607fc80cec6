use Rattle.std.proofs.Common.{◌≡◌, ◌∙◌, sym, subst, below_more, true, false}
use Rattle.std.proofs.lemmas.List.{get_or_default}
use Rattle.space_ops.specs.declared.op.Op.{Op}
use Rattle.space_ops.specs.Op.{seitz_of, identity_op}
use Rattle.space_ops.specs.Group.{IsGeneratorOp}
use Rattle.space_ops.proofs.generators.are_generators.Goals as goal

pub loop-op-preserved : goal.loop-op-preserved
loop-op-preserved c =
    below_more _ _ c.loop-op.invariant
    (subst (λ (o : Op). IsGeneratorOp (seitz_of o)) (get_or_default c.args.generators.now c.loop-op.op-index _ identity_op c.loop-op-test.true) (c.is_generator.ensures.0 c.if-not-is_generator.false))

pub returns-then-not-is_generator-clause-no : goal.returns-then-not-is_generator-clause-no
returns-then-not-is_generator-clause-no c e =
    let k = c.loop-op.op-index in (
      k,
      c.loop-op-test.true,
      λ h.
          let t : c.is_generator.result ≡ true =
          c.is_generator.ensures.1 (subst (λ (o : Op). IsGeneratorOp (seitz_of o)) (get_or_default c.args.generators.now k identity_op _ c.loop-op-test.true) h) in
          let d : false ≡ true = sym c.if-not-is_generator.true ∙ t in
          cc,
    )
