use Rattle.std.proofs.Common.{◌∙◌, Some, map, ap}
use Rattle.cyclo24.specs.Terms.{terms_value}
use Rattle.cyclo24.specs.Z24.{exact_z24}
use Rattle.induce.specs.Tables.{dimension_in}
use Rattle.real_form.specs.Candidates.{tried}
use Rattle.list_report.specs.RealForms.{tried_of}
use Rattle.list_report.proofs.FormFoundLemmas.{numbers-tried, form-found, form-cause, found-moved, cause-moved}
use Rattle.list_report.proofs.realising.form_given.Goals as goal

pub returns-clause-form : goal.returns-clause-form
returns-clause-form c =
    let q = c.args.quotient.now in
    let v = c.args.induced.now in
    let n = dimension_in v.tables in
    let w = c.as_slice-2.result.now in
    let vector = c.args.vector.now in
    let e = ap (map exact_z24) c.as_slice-2.ensures.value ∙ c.in-Ok.ensures ∙ ap (map terms_value) c.as_slice.ensures in
    let new = c.new.ensures in
    found-moved q v (tried n (Some w)) (tried_of n (Some vector)) c.new.result (numbers-tried n w vector e) (form-found q v (tried n (Some w)) c.new.result new.basis new.matrices new.quotient new.dim new.few)

pub returns-clause-cause : goal.returns-clause-cause
returns-clause-cause c =
    let q = c.args.quotient.now in
    let v = c.args.induced.now in
    let n = dimension_in v.tables in
    let w = c.as_slice-2.result.now in
    let vector = c.args.vector.now in
    let e = ap (map exact_z24) c.as_slice-2.ensures.value ∙ c.in-Ok.ensures ∙ ap (map terms_value) c.as_slice.ensures in
    cause-moved q v (tried n (Some w)) (tried_of n (Some vector)) c.new.result (numbers-tried n w vector e) (form-cause q v (tried n (Some w)) c.new.result c.new.ensures.none c.new.ensures.wide)
