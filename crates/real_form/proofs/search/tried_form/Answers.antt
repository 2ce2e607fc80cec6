use Rattle.std.proofs.Common.{ℕ, refl, ◌∙◌, ap, subst, arith, get_or, length, IfOk, IfSome}
use Rattle.std.specs.Prelude.{IfNone}
use Rattle.cyclo24.specs.K24.{exact24}
use Rattle.cyclo24.specs.Z24.{exact_z24}
use Rattle.cyclo24.specs.ExactK24.{k24_laws}
use Rattle.cyclo24.specs.ExactZ24.{ExactZ24, z24_laws}
use Rattle.lin_alg.specs.Rows.{vector, exact_rows}
use Rattle.lin_alg.specs.Matrices.{AreEqualBelow, unit_entry, IsRepresentation}
use Rattle.super_group.specs.Quotient.{order_of, quotient_group}
use Rattle.small_rep.specs.RepCheck.{CheckedView}
use Rattle.induce.specs.Tables.{dimension_in, matrix_in, size_in}
use Rattle.induce.specs.InducedView.{star_in}
use Rattle.real_form.specs.RealBasis.{IsBasisOf, FitsNot}
use Rattle.real_form.specs.Wide.{IsWideOrbit}
use Rattle.real_form.specs.declared.candidate.Candidate.TheVariants.{Place}
use Rattle.real_form.specs.Candidates.{candidate_vector}
use Rattle.real_form.proofs.FirstLemmas.{power-at, at-any}
use Rattle.real_form.proofs.ShiftLemmas.{shifted-fits, none-at}
use Rattle.real_form.proofs.search.tried_form.Goals as goal

pub returns-then-is_shifted-clause-none : goal.returns-then-is_shifted-clause-none
returns-then-is_shifted-clause-none c =
    λ fits.
    let s = c.args.quotient.now in
    let n = (dimension_in c.args.induced.now.tables) in
    let size = size_in c.args.induced.now.tables in
    let A = length (star_in c.args.induced.now).by in
    let m = order_of s in
    let D = matrix_in s c.args.induced.now.tables in
    let cs = c.args.candidates.now in
    let k = c.args.k in
    let inside = c.requires.inside in
    let some = c.size-size.ensures.some in
    let es = (c.size-size.ensures.value ∙ ap (λ (x : CheckedView). x.rep.size) c.rep.ensures) in
    let rep : IsRepresentation z24_laws (quotient_group s) n D = subst (λ (i : ℕ). IsRepresentation z24_laws (quotient_group s) i D) c.dim-n.ensures.value (c.dim-n.ensures.multiplies s c.requires.of) in
    let one : AreEqualBelow n (D 0) (unit_entry z24_laws) = subst (λ (i : ℕ). AreEqualBelow i (D 0) (unit_entry z24_laws)) c.dim-n.ensures.value (c.dim-n.ensures.identity s c.requires.of) in
    let e = c.is_shifted.ensures c.if-is_shifted.true in
    none-at (FitsNot n m D) (candidate_vector n) cs k e.0 (Place 0) (omega (arith, inside)) e.1 c.requires.before
    (shifted-fits s c.order-order.ensures.quotient n size A refl (omega (arith, some, es)) D rep one c.requires.combined.phases c.requires.combined.are_phases (get_or cs e.0 (Place 0)) (get_or cs k (Place 0)) e.2 fits)

pub candidate_row-requires : goal.candidate_row-requires
candidate_row-requires c = power-at c.args.candidates.now c.args.k (get_or c.args.candidates.now c.args.k (Place 0)) c.requires.inside (at-any c.args.candidates.now c.args.k (Place 0) (get_or c.args.candidates.now c.args.k (Place 0)) c.requires.inside) c.requires.powers

pub returns-clause-some : goal.returns-clause-some
returns-clause-some c =
    let n = (dimension_in c.args.induced.now.tables) in
    let m = order_of c.args.quotient.now in
    let D = matrix_in c.args.quotient.now c.args.induced.now.tables in
    let x = get_or c.args.candidates.now c.args.k (Place 0) in
    let ew = ap (vector z24_laws exact_z24) c.deref.ensures.value ∙ c.in_ok-row.ensures.exact ∙ ap (λ k. candidate_vector k x) c.dim-n.ensures.value in
    subst (λ (v : ℕ → ExactZ24). IfOk c.span_of.result (λ answer. IfSome answer (λ form. IsBasisOf n m D (exact_rows k24_laws exact24 form.rows) v))) ew c.span_of.ensures.some

pub returns-clause-none : goal.returns-clause-none
returns-clause-none c =
    let n = (dimension_in c.args.induced.now.tables) in
    let m = order_of c.args.quotient.now in
    let D = matrix_in c.args.quotient.now c.args.induced.now.tables in
    let x = get_or c.args.candidates.now c.args.k (Place 0) in
    let ew = ap (vector z24_laws exact_z24) c.deref.ensures.value ∙ c.in_ok-row.ensures.exact ∙ ap (λ k. candidate_vector k x) c.dim-n.ensures.value in
    subst (λ (v : ℕ → ExactZ24). IfOk c.span_of.result (λ answer. IfNone answer (FitsNot n m D v))) ew c.span_of.ensures.none

pub returns-clause-wide : goal.returns-clause-wide
returns-clause-wide c w =
    let n = (dimension_in c.args.induced.now.tables) in
    let m = order_of c.args.quotient.now in
    let D = matrix_in c.args.quotient.now c.args.induced.now.tables in
    let x = get_or c.args.candidates.now c.args.k (Place 0) in
    let ew = ap (vector z24_laws exact_z24) c.deref.ensures.value ∙ c.in_ok-row.ensures.exact ∙ ap (λ k. candidate_vector k x) c.dim-n.ensures.value in
    subst (λ (v : ℕ → ExactZ24). IsWideOrbit n m D v) ew (c.span_of.ensures.wide w)
