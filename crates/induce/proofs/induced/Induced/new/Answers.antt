use Rattle.std.proofs.Common.{◌≡◌, ◌∙◌, ap}
use Rattle.cyclo24.specs.ExactZ24.{z24_laws}
use Rattle.lin_alg.specs.Matrices.{IsRepresentation, AreEqualBelow, unit_entry}
use Rattle.super_group.specs.Quotient.{quotient_group}
use Rattle.small_rep.specs.Rep.{matrices_of}
use Rattle.induce.specs.declared.tables.Tables.{Tables}
use Rattle.induce.specs.Induced.{dimension_of, induced_of}
use Rattle.induce.specs.InducedView.{InducedView, star_in, rep_in}
use Rattle.induce.specs.InducedLaws.{induced-multiplies, induced-identity}
use Rattle.induce.proofs.NewLemmas.{if_ok, if_any, cause_of}
use Rattle.induce.proofs.induced.Induced.new.Goals as goal

pub returns-clause-star : goal.returns-clause-star
returns-clause-star c =
    if_ok c.induced_by.result (λ (v : InducedView). v.tables ≡ c.in-Ok.tables) (λ (v : InducedView). star_in v ≡ c.args.star) (λ v e. ap (λ (t : Tables). t.star) e ∙ c.in-Ok.ensures.star) c.induced_by.ensures.tables

pub returns-clause-rep : goal.returns-clause-rep
returns-clause-rep c =
    if_ok c.induced_by.result (λ (v : InducedView). v.tables ≡ c.in-Ok.tables) (λ (v : InducedView). rep_in v ≡ c.args.rep) (λ v e. ap (λ (t : Tables). t.rep) e ∙ c.in-Ok.ensures.rep) c.induced_by.ensures.tables

pub returns-clause-multiplies : goal.returns-clause-multiplies
returns-clause-multiplies c =
    let h = c.in-Ok.ensures.inducible in
    if_any c.induced_by.result
    (IsRepresentation z24_laws (quotient_group c.args.quotient.now) (dimension_of c.args.star c.args.rep.rep.size) (induced_of c.args.quotient.now c.args.star c.args.rep.rep.size (matrices_of c.args.rep.rep)))
    (induced-multiplies c.args.quotient.now h.on.quotient c.args.star.row c.args.star h.on.star h.on.phases h.on.cells c.args.rep.rep.size (matrices_of c.args.rep.rep) h.small)

pub returns-clause-identity : goal.returns-clause-identity
returns-clause-identity c =
    let h = c.in-Ok.ensures.inducible in
    if_any c.induced_by.result
    (AreEqualBelow (dimension_of c.args.star c.args.rep.rep.size) (induced_of c.args.quotient.now c.args.star c.args.rep.rep.size (matrices_of c.args.rep.rep) 0) (unit_entry z24_laws))
    (induced-identity c.args.quotient.now h.on.quotient c.args.star.row c.args.star h.on.star h.on.phases h.on.cells c.args.rep.rep.size (matrices_of c.args.rep.rep) h.small)

pub returns-clause-cause : goal.returns-clause-cause
returns-clause-cause c =
    cause_of c.args.quotient.now c.in-Ok.tables.star c.args.star c.in-Ok.tables.rep c.args.rep c.induced_by.result c.in-Ok.ensures.star c.in-Ok.ensures.rep c.induced_by.ensures.cause
