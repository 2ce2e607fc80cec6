use Rattle.std.proofs.Common.{◌∙◌, ◌*◌, sym, ap, subst, List, Bool, length, map, IfOk, IfSome}
use Rattle.std.specs.Prelude.{IfNone}
use Rattle.cyclo24.specs.K24.{exact24}
use Rattle.cyclo24.specs.ExactK24.{k24_laws}
use Rattle.lin_alg.specs.Rows.{exact_rows}
use Rattle.super_group.specs.Quotient.{order_of}
use Rattle.induce.specs.Tables.{dimension_in, matrix_in, size_in}
use Rattle.induce.specs.InducedView.{star_in}
use Rattle.real_form.specs.Orbits.{FirstOf, NoneOf}
use Rattle.real_form.specs.RealBasis.{IsBasisOf, FitsNot, IsWideSpans}
use Rattle.real_form.specs.declared.candidate.Candidate.{Candidate}
use Rattle.real_form.specs.Candidates.{candidate_vector, candidates_of, ArePowers}
use Rattle.real_form.specs.Sparse.{AreCombined}
use Rattle.real_form.proofs.search.candidate_form.Goals as goal

pub first_form-requires-clause-powers : goal.first_form-requires-clause-powers
first_form-requires-clause-powers c = subst ArePowers (sym c.deref.ensures.value) c.in_ok-all.ensures.powers

pub returns-clause-some : goal.returns-clause-some
returns-clause-some c =
    let n = dimension_in c.args.induced.now.tables in
    let m = order_of c.args.quotient.now in
    let D = matrix_in c.args.quotient.now c.args.induced.now.tables in
    let e = c.deref.ensures.value ∙ c.in_ok-all.ensures.list ∙ ap candidates_of c.dim.ensures.value in
    subst (λ (cs : List Candidate). IfOk c.first_form.result (λ answer. IfSome answer (λ form. FirstOf (IsBasisOf n m D (exact_rows k24_laws exact24 form.rows)) (FitsNot n m D) (map (candidate_vector n) cs)))) e c.first_form.ensures.some

pub returns-clause-none : goal.returns-clause-none
returns-clause-none c =
    let n = dimension_in c.args.induced.now.tables in
    let m = order_of c.args.quotient.now in
    let D = matrix_in c.args.quotient.now c.args.induced.now.tables in
    let e = c.deref.ensures.value ∙ c.in_ok-all.ensures.list ∙ ap candidates_of c.dim.ensures.value in
    subst (λ (cs : List Candidate). IfOk c.first_form.result (λ answer. IfNone answer (NoneOf (FitsNot n m D) (map (candidate_vector n) cs)))) e c.first_form.ensures.none

pub returns-clause-wide : goal.returns-clause-wide
returns-clause-wide c w =
    let n = dimension_in c.args.induced.now.tables in
    let m = order_of c.args.quotient.now in
    let D = matrix_in c.args.quotient.now c.args.induced.now.tables in
    let e = c.deref.ensures.value ∙ c.in_ok-all.ensures.list ∙ ap candidates_of c.dim.ensures.value in
    subst (λ (cs : List Candidate). IsWideSpans n m D (map (candidate_vector n) cs)) e (c.first_form.ensures.wide w)

pub first_form-requires-clause-combined : goal.first_form-requires-clause-combined
first_form-requires-clause-combined c =
    let s = c.args.quotient.now in
    let A = length (star_in c.args.induced.now).by in
    subst (λ (xs : List Bool). AreCombined (length s.parent.ops) (length s.translations) (dimension_in c.args.induced.now.tables) (size_in c.args.induced.now.tables) A (matrix_in s c.args.induced.now.tables) xs (A * A * length s.translations))
    (sym c.deref-2.ensures.value) c.in_ok-combined.ensures
