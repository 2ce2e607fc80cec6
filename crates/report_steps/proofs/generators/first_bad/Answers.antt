use Rattle.std.proofs.Common.{subst, below_more}
use Rattle.std.proofs.lemmas.List.{get_or_default}
use Rattle.iso_text.specs.declared.sections.OpLine.{OpLine}
use Rattle.space_ops.specs.declared.op.Op.{Op}
use Rattle.report_steps.specs.Generators.{HasUnitDeterminant}
use Rattle.report_steps.proofs.generators.first_bad.Goals as goal

pub loop-k-preserved : goal.loop-k-preserved
loop-k-preserved c =
    below_more _ _ c.loop-k.invariant
    (subst (λ (o : OpLine). HasUnitDeterminant o.op.rows) (get_or_default c.args.lines.now c.loop-k.k _ _ c.loop-k-test.true)
    (subst (λ (o : Op). HasUnitDeterminant o.rot) c.from_text.ensures (c.has_unit_determinant.ensures.0 c.if-not-has_unit_determinant.false)))
