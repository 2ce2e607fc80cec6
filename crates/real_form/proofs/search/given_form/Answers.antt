use Rattle.std.proofs.Common.{◌*◌, sym, subst, length, List, Bool}
use Rattle.cyclo24.specs.K24.{exact24}
use Rattle.cyclo24.specs.Z24.{exact_z24}
use Rattle.cyclo24.specs.ExactK24.{k24_laws}
use Rattle.cyclo24.specs.ExactZ24.{z24_laws}
use Rattle.lin_alg.specs.Rows.{vector, exact_rows}
use Rattle.super_group.specs.Quotient.{order_of}
use Rattle.induce.specs.Tables.{dimension_in, matrix_in, size_in}
use Rattle.induce.specs.InducedView.{star_in}
use Rattle.real_form.specs.Orbits.{FirstOf, NoneOf}
use Rattle.real_form.specs.RealBasis.{IsBasisOf, FitsNot}
use Rattle.real_form.specs.Candidates.{tried}
use Rattle.real_form.specs.Wide.{IsWideOrbit}
use Rattle.std.specs.Prelude.{Some}
use Rattle.real_form.proofs.AnswerLemmas.{some-map, none-map, first-one, none-one}
use Rattle.real_form.specs.Sparse.{AreCombined}
use Rattle.real_form.proofs.search.given_form.Goals as goal

pub returns-clause-some : goal.returns-clause-some
returns-clause-some c =
    let n = (dimension_in c.args.induced.now.tables) in
    let m = order_of c.args.quotient.now in
    let D = matrix_in c.args.quotient.now c.args.induced.now.tables in
    let w = vector z24_laws exact_z24 c.args.w.now in
    some-map c.span_of.result (λ form. IsBasisOf n m D (exact_rows k24_laws exact24 form.rows) w) (λ form. FirstOf (IsBasisOf n m D (exact_rows k24_laws exact24 form.rows)) (FitsNot n m D) (tried n (Some c.args.w.now)))
    (λ form h. first-one (IsBasisOf n m D (exact_rows k24_laws exact24 form.rows)) (FitsNot n m D) w h) c.span_of.ensures.some

pub returns-clause-none : goal.returns-clause-none
returns-clause-none c =
    let n = (dimension_in c.args.induced.now.tables) in
    let m = order_of c.args.quotient.now in
    let D = matrix_in c.args.quotient.now c.args.induced.now.tables in
    let w = vector z24_laws exact_z24 c.args.w.now in
    none-map c.span_of.result (FitsNot n m D w) (NoneOf (FitsNot n m D) (tried n (Some c.args.w.now))) (none-one (FitsNot n m D) (FitsNot n m D) w) c.span_of.ensures.none

pub returns-clause-wide : goal.returns-clause-wide
returns-clause-wide c e =
    let n = (dimension_in c.args.induced.now.tables) in
    let m = order_of c.args.quotient.now in
    let D = matrix_in c.args.quotient.now c.args.induced.now.tables in
    first-one (IsWideOrbit n m D) (FitsNot n m D) (vector z24_laws exact_z24 c.args.w.now) (c.span_of.ensures.wide e)

pub span_of-requires-clause-combined : goal.span_of-requires-clause-combined
span_of-requires-clause-combined c =
    let s = c.args.quotient.now in
    let A = length (star_in c.args.induced.now).by in
    subst (λ (xs : List Bool). AreCombined (length s.parent.ops) (length s.translations) (dimension_in c.args.induced.now.tables) (size_in c.args.induced.now.tables) A (matrix_in s c.args.induced.now.tables) xs (A * A * length s.translations))
    (sym c.deref.ensures.value) c.in_ok-combined.ensures
