use Rattle.std.proofs.Common.{refl, subst}
use Rattle.report_steps.specs.Irreps.{IsVectorOf, IsVectorCause}
use Rattle.report_steps.proofs.induction.fitting.Goals as goal

pub returns-in-Some-clause-answer : goal.returns-in-Some-clause-answer
returns-in-Some-clause-answer c = subst (λ n. IsVectorCause n c.args.irrep.now.vector c.in-Some.refusal) c.dim.ensures.value c.in-Some.ensures

pub returns-in-None-clause-answer : goal.returns-in-None-clause-answer
returns-in-None-clause-answer c = (subst (λ n. IsVectorOf n c.args.irrep.now.vector) c.dim.ensures.value c.in-None.ensures, refl)
