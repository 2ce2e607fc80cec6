use Rattle.std.proofs.Common.{◌≤◌, arith, get_or, length, subst, IfSome}
use Rattle.std.specs.Prelude.{IfNone}
use Rattle.cyclo24.specs.K24.{exact24}
use Rattle.cyclo24.specs.ExactK24.{k24_laws}
use Rattle.lin_alg.specs.Rows.{exact_rows}
use Rattle.super_group.specs.Quotient.{order_of}
use Rattle.induce.specs.Tables.{dimension_in, matrix_in}
use Rattle.real_form.specs.RealBasis.{IsBasisOf, FitsNot}
use Rattle.real_form.specs.Wide.{IsWideOrbit}
use Rattle.real_form.specs.declared.candidate.Candidate.TheVariants.{Place}
use Rattle.real_form.specs.Candidates.{candidate_vector}
use Rattle.real_form.proofs.FirstLemmas.{first-at, none-next, none-all, at-any}
use Rattle.real_form.proofs.search.first_form.Goals as goal

pub returns-in-Ok-Some-clause-some : goal.returns-in-Ok-Some-clause-some
returns-in-Ok-Some-clause-some c =
    let n = (dimension_in c.args.induced.now.tables) in
    let m = order_of c.args.quotient.now in
    let D = matrix_in c.args.quotient.now c.args.induced.now.tables in
    let cs = c.args.candidates.now in
    let i = c.loop-k.k in
    let x = get_or cs i (Place 0) in
    let rs = exact_rows k24_laws exact24 c.in-Ok-Some.form.rows in
    let found = subst (λ o. IfSome o (λ form. IsBasisOf n m D (exact_rows k24_laws exact24 form.rows) (candidate_vector n x))) c.in-Ok-Some.field-0-is c.in-Ok-Some.ensures.some in
    first-at (FitsNot n m D) (candidate_vector n) (IsBasisOf n m D rs) cs i x c.loop-k-test.true (at-any cs i (Place 0) x c.loop-k-test.true) c.loop-k.invariant found

pub returns-in-Err-clause-wide : goal.returns-in-Err-clause-wide
returns-in-Err-clause-wide c e =
    let n = (dimension_in c.args.induced.now.tables) in
    let m = order_of c.args.quotient.now in
    let D = matrix_in c.args.quotient.now c.args.induced.now.tables in
    let cs = c.args.candidates.now in
    let i = c.loop-k.k in
    let x = get_or cs i (Place 0) in
    first-at (FitsNot n m D) (candidate_vector n) (IsWideOrbit n m D) cs i x c.loop-k-test.true (at-any cs i (Place 0) x c.loop-k-test.true) c.loop-k.invariant (c.in-Err.ensures.wide e)

pub loop-k-preserved : goal.loop-k-preserved
loop-k-preserved c =
    let n = (dimension_in c.args.induced.now.tables) in
    let m = order_of c.args.quotient.now in
    let D = matrix_in c.args.quotient.now c.args.induced.now.tables in
    let cs = c.args.candidates.now in
    let i = c.loop-k.k in
    let x = get_or cs i (Place 0) in
    let none = subst (λ o. IfNone o (FitsNot n m D (candidate_vector n x))) c.in-Ok-None.field-0-is c.in-Ok-None.ensures.none in
    none-next (FitsNot n m D) (candidate_vector n) cs i x c.loop-k-test.true (at-any cs i (Place 0) x c.loop-k-test.true) c.loop-k.invariant none

pub returns-clause-none : goal.returns-clause-none
returns-clause-none c =
    let n = (dimension_in c.args.induced.now.tables) in
    let m = order_of c.args.quotient.now in
    let D = matrix_in c.args.quotient.now c.args.induced.now.tables in
    let test = c.loop-k-test.false in
    let all : length c.args.candidates.now ≤ c.loop-k.k = omega (arith, test) in
    none-all (FitsNot n m D) (candidate_vector n) c.args.candidates.now c.loop-k.k all c.loop-k.invariant
