use Rattle.list_report.proofs.RealisingLemmas.{is-formed, no-basis, wide-form}
use Rattle.list_report.proofs.realising.form_of.Goals as goal

pub returns-in-Ok-clause-answer : goal.returns-in-Ok-clause-answer
returns-in-Ok-clause-answer c format = is-formed format c.args.quotient.now c.args.irrep.now c.args.induced.now c.requires c.in-Ok.form c.in-Ok.ensures.form

pub returns-in-Err-NoRealBasis-clause-answer : goal.returns-in-Err-NoRealBasis-clause-answer
returns-in-Err-NoRealBasis-clause-answer c format =
    let e = c.in-Err-NoRealBasis in
    no-basis format c.args.quotient.now c.args.irrep.now c.args.induced.now c.requires (rw e.field-0-is at e.ensures.cause)

pub returns-in-Err-Wide-clause-answer : goal.returns-in-Err-Wide-clause-answer
returns-in-Err-Wide-clause-answer c format =
    let e = c.in-Err-Wide in
    wide-form format c.args.quotient.now c.args.irrep.now c.args.induced.now c.requires e.family (rw e.field-0-is at e.ensures.cause)
