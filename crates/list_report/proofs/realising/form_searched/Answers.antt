use Rattle.std.proofs.Common.{None}
use Rattle.induce.specs.Tables.{dimension_in}
use Rattle.list_report.specs.RealForms.{tried_of}
use Rattle.list_report.proofs.FormFoundLemmas.{form-cause}
use Rattle.list_report.proofs.realising.form_searched.Goals as goal

pub returns-clause-cause : goal.returns-clause-cause
returns-clause-cause c =
    let v = c.args.induced.now in
    form-cause c.args.quotient.now v (tried_of (dimension_in v.tables) None) c.new.result c.new.ensures.none c.new.ensures.wide
