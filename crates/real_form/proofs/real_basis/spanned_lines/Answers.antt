use Rattle.std.proofs.Common.{◌≡◌, ◌+◌, ℕ, refl, sym, ◌∙◌, ap, subst, List, IfSome}
use Rattle.std.proofs.lemmas.List.{length-map}
use Rattle.std.specs.Prelude.{IfNone, Err}
use Rattle.std.specs.Option.{option_copied}
use Rattle.cyclo24.specs.declared.k24.K24.{K24}
use Rattle.cyclo24.specs.K24.{exact24}
use Rattle.cyclo24.specs.ExactK24.{k24_laws}
use Rattle.cyclo24.specs.ExactZ24.{z24_laws}
use Rattle.lin_alg.specs.Matrices.{IsRepresentation, AreEqualBelow, unit_entry}
use Rattle.lin_alg.specs.Rows.{exact_rows, HaveWidth}
use Rattle.super_group.specs.Quotient.{order_of, quotient_group}
use Rattle.induce.specs.Tables.{dimension_in, matrix_in}
use Rattle.real_form.specs.Candidates.{tried}
use Rattle.real_form.specs.Orbits.{FirstOf, NoneOf}
use Rattle.real_form.specs.RealBasis.{IsBasisOf, FitsNot}
use Rattle.real_form.specs.Vectors.{lines_of}
use Rattle.real_form.proofs.KeptLemmas.{spanned-kept, spanned-count}
use Rattle.real_form.proofs.real_basis.spanned_lines.Goals as goal

pub returns-in-Ok-clause-basis : goal.returns-in-Ok-clause-basis
returns-in-Ok-clause-basis c =
    let n = dimension_in c.args.induced.now.tables in
    let m = order_of c.args.quotient.now in
    let D = matrix_in c.args.quotient.now c.args.induced.now.tables in
    let N = FitsNot n m D in
    let cs = tried n (option_copied c.args.given) in
    let some = subst (λ o. IfSome o (λ form. FirstOf (IsBasisOf n m D (exact_rows k24_laws exact24 form.rows)) N cs)) c.in-Ok-Some.field-0-is c.in-Ok-Some.ensures.some in
    subst (λ (rows : List (ℕ × List K24)). FirstOf (IsBasisOf n m D (exact_rows k24_laws exact24 rows)) N cs) (sym c.in-Ok.ensures) some

pub returns-in-Ok-clause-kept : goal.returns-in-Ok-clause-kept
returns-in-Ok-clause-kept c =
    let s = c.args.quotient.now in
    let n = dimension_in c.args.induced.now.tables in
    let m = order_of s in
    let D = matrix_in s c.args.induced.now.tables in
    let N = FitsNot n m D in
    let cs = tried n (option_copied c.args.given) in
    let e = c.dim-dim.ensures.value in
    let rows = lines_of c.in-Ok.lines.items in
    let rep : IsRepresentation z24_laws (quotient_group s) n D = subst (λ (k : ℕ). IsRepresentation z24_laws (quotient_group s) k D) e (c.dim-dim.ensures.multiplies s c.requires.of) in
    let one : AreEqualBelow n (D 0) (unit_entry z24_laws) = subst (λ (k : ℕ). AreEqualBelow k (D 0) (unit_entry z24_laws)) e (c.dim-dim.ensures.identity s c.requires.of) in
    let some = subst (λ o. IfSome o (λ form. FirstOf (IsBasisOf n m D (exact_rows k24_laws exact24 form.rows)) N cs)) c.in-Ok-Some.field-0-is c.in-Ok-Some.ensures.some in
    let shape = subst (λ o. IfSome o (λ form. HaveWidth (n + n) form.rows)) c.in-Ok-Some.field-0-is c.in-Ok-Some.ensures.shape in
    let width : HaveWidth (n + n) rows = subst (HaveWidth (n + n)) (sym c.in-Ok.ensures) shape in
    let first : FirstOf (IsBasisOf n m D (exact_rows k24_laws exact24 rows)) N cs =
    subst (λ (rows : List (ℕ × List K24)). FirstOf (IsBasisOf n m D (exact_rows k24_laws exact24 rows)) N cs) (sym c.in-Ok.ensures) some in
    spanned-kept s c.order-order.ensures.quotient n D rep one rows cs width first

pub returns-in-Ok-clause-count : goal.returns-in-Ok-clause-count
returns-in-Ok-clause-count c =
    let n = dimension_in c.args.induced.now.tables in
    let m = order_of c.args.quotient.now in
    let D = matrix_in c.args.quotient.now c.args.induced.now.tables in
    let N = FitsNot n m D in
    let cs = tried n (option_copied c.args.given) in
    let rows = lines_of c.in-Ok.lines.items in
    let some = subst (λ o. IfSome o (λ form. FirstOf (IsBasisOf n m D (exact_rows k24_laws exact24 form.rows)) N cs)) c.in-Ok-Some.field-0-is c.in-Ok-Some.ensures.some in
    let first : FirstOf (IsBasisOf n m D (exact_rows k24_laws exact24 rows)) N cs =
    subst (λ (rows : List (ℕ × List K24)). FirstOf (IsBasisOf n m D (exact_rows k24_laws exact24 rows)) N cs) (sym c.in-Ok.ensures) some in
    sym (rw length-map refl) ∙ spanned-count n m D rows cs first

pub returns-in-Ok-None-clause-none : goal.returns-in-Ok-None-clause-none
returns-in-Ok-None-clause-none c _ =
    let n = dimension_in c.args.induced.now.tables in
    let m = order_of c.args.quotient.now in
    let D = matrix_in c.args.quotient.now c.args.induced.now.tables in
    subst (λ o. IfNone o (NoneOf (FitsNot n m D) (tried n (option_copied c.args.given)))) c.in-Ok-None.field-0-is c.in-Ok-None.ensures.none

pub returns-in-Err-Wide-clause-wide : goal.returns-in-Err-Wide-clause-wide
returns-in-Err-Wide-clause-wide c f e =
    let one : f ≡ 1 = cc in
    (one, c.in-Err-Wide.ensures.wide (ap Err c.in-Err-Wide.field-0-is))
