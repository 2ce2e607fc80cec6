use Rattle.std.proofs.Common.{sym, ap, subst, List, Option, IfOk, IfSome}
use Rattle.std.specs.Prelude.{IfNone}
use Rattle.std.specs.Option.{option_copied}
use Rattle.cyclo24.specs.declared.z24.Z24.{Z24}
use Rattle.cyclo24.specs.K24.{exact24}
use Rattle.cyclo24.specs.ExactK24.{k24_laws}
use Rattle.lin_alg.specs.Rows.{exact_rows}
use Rattle.super_group.specs.Quotient.{order_of}
use Rattle.induce.specs.Tables.{dimension_in, matrix_in}
use Rattle.real_form.specs.Orbits.{FirstOf, NoneOf}
use Rattle.real_form.specs.RealBasis.{IsBasisOf, FitsNot, IsWideSpans}
use Rattle.real_form.specs.Candidates.{tried}
use Rattle.real_form.proofs.search.fitting_form.Goals as goal

pub returns-in-Some-clause-some : goal.returns-in-Some-clause-some
returns-in-Some-clause-some c =
    let n = dimension_in c.args.induced.now.tables in
    let m = order_of c.args.quotient.now in
    let D = matrix_in c.args.quotient.now c.args.induced.now.tables in
    let e = ap option_copied (sym c.in-Some.is) in
    subst (λ (o : Option (List Z24)). IfOk c.given_form.result (λ answer. IfSome answer (λ form. FirstOf (IsBasisOf n m D (exact_rows k24_laws exact24 form.rows)) (FitsNot n m D) (tried n o)))) e c.given_form.ensures.some

pub returns-in-Some-clause-none : goal.returns-in-Some-clause-none
returns-in-Some-clause-none c =
    let n = dimension_in c.args.induced.now.tables in
    let m = order_of c.args.quotient.now in
    let D = matrix_in c.args.quotient.now c.args.induced.now.tables in
    let e = ap option_copied (sym c.in-Some.is) in
    subst (λ (o : Option (List Z24)). IfOk c.given_form.result (λ answer. IfNone answer (NoneOf (FitsNot n m D) (tried n o)))) e c.given_form.ensures.none

pub returns-in-Some-clause-wide : goal.returns-in-Some-clause-wide
returns-in-Some-clause-wide c w =
    let n = dimension_in c.args.induced.now.tables in
    let m = order_of c.args.quotient.now in
    let D = matrix_in c.args.quotient.now c.args.induced.now.tables in
    let e = ap option_copied (sym c.in-Some.is) in
    subst (λ (o : Option (List Z24)). IsWideSpans n m D (tried n o)) e (c.given_form.ensures.wide w)

pub returns-in-None-clause-some : goal.returns-in-None-clause-some
returns-in-None-clause-some c =
    let n = dimension_in c.args.induced.now.tables in
    let m = order_of c.args.quotient.now in
    let D = matrix_in c.args.quotient.now c.args.induced.now.tables in
    let e = ap option_copied (sym c.in-None.is) in
    subst (λ (o : Option (List Z24)). IfOk c.candidate_form.result (λ answer. IfSome answer (λ form. FirstOf (IsBasisOf n m D (exact_rows k24_laws exact24 form.rows)) (FitsNot n m D) (tried n o)))) e c.candidate_form.ensures.some

pub returns-in-None-clause-none : goal.returns-in-None-clause-none
returns-in-None-clause-none c =
    let n = dimension_in c.args.induced.now.tables in
    let m = order_of c.args.quotient.now in
    let D = matrix_in c.args.quotient.now c.args.induced.now.tables in
    let e = ap option_copied (sym c.in-None.is) in
    subst (λ (o : Option (List Z24)). IfOk c.candidate_form.result (λ answer. IfNone answer (NoneOf (FitsNot n m D) (tried n o)))) e c.candidate_form.ensures.none

pub returns-in-None-clause-wide : goal.returns-in-None-clause-wide
returns-in-None-clause-wide c w =
    let n = dimension_in c.args.induced.now.tables in
    let m = order_of c.args.quotient.now in
    let D = matrix_in c.args.quotient.now c.args.induced.now.tables in
    let e = ap option_copied (sym c.in-None.is) in
    subst (λ (o : Option (List Z24)). IsWideSpans n m D (tried n o)) e (c.candidate_form.ensures.wide w)
