use Rattle.std.proofs.Common.{Some, None, sym, ap}
use Rattle.induce.specs.Tables.{dimension_in}
use Rattle.list_report.specs.RealForms.{tried_of}
use Rattle.list_report.proofs.FormFoundLemmas.{cause-moved}
use Rattle.list_report.proofs.realising.real_form.Goals as goal

pub returns-in-Some-clause-cause : goal.returns-in-Some-clause-cause
returns-in-Some-clause-cause c =
    let v = c.args.induced.now in
    let n = dimension_in v.tables in
    cause-moved c.args.quotient.now v (tried_of n (Some c.in-Some.vector)) (tried_of n c.args.irrep.now.vector) c.form_given.result (ap (tried_of n) (sym c.in-Some.is)) c.form_given.ensures.cause

pub returns-in-None-clause-cause : goal.returns-in-None-clause-cause
returns-in-None-clause-cause c =
    let v = c.args.induced.now in
    let n = dimension_in v.tables in
    cause-moved c.args.quotient.now v (tried_of n None) (tried_of n c.args.irrep.now.vector) c.form_searched.result (ap (tried_of n) (sym c.in-None.is)) c.form_searched.ensures.cause
