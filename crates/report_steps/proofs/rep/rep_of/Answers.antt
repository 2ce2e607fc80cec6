use Rattle.std.proofs.Common.{subst}
use Rattle.space_ops.specs.Group.{Parent}
use Rattle.report_steps.specs.Irreps.{IsRepCause}
use Rattle.report_steps.proofs.RepLemmas.{rep-refused}
use Rattle.report_steps.proofs.rep.rep_of.Goals as goal

pub returns-in_ok-refusal_of-in-Err : goal.returns-in_ok-refusal_of-in-Err
returns-in_ok-refusal_of-in-Err c =
    let p = c.args.quotient.now.parent in
    let irrep = c.args.irrep.now in
    let P : Parent → Type 0 = λ x. IsRepCause x irrep c.in-Err.error in
    rep-refused p irrep c.in-Err.error c.in_ok-refusal_of-in-Err.field-0 (subst P c.group.ensures c.in-Err.ensures.cause) c.in_ok-refusal_of-in-Err.ensures
