use Rattle.std.proofs.Common.{◌≡◌, ◌≤◌, ◌+◌, ℕ, inl, inr, sym, ap, subst, List, length}
use Rattle.std.specs.Prelude.{Err}
use Rattle.std.specs.Option.{option_copied}
use Rattle.real_form.specs.declared.errors.FormError.TheVariants.{NoRealBasis, Wide}
use Rattle.cyclo24.specs.declared.k24.K24.{K24}
use Rattle.cyclo24.specs.K24.{exact24}
use Rattle.cyclo24.specs.ExactK24.{k24_laws}
use Rattle.lin_alg.specs.Rows.{exact_rows, HaveWidth}
use Rattle.super_group.specs.Quotient.{order_of}
use Rattle.induce.specs.Kinds.{real_dimension}
use Rattle.induce.specs.Tables.{dimension_in, matrix_in}
use Rattle.real_form.specs.Candidates.{tried}
use Rattle.real_form.specs.RealBasis.{IsRealBasis}
use Rattle.real_form.specs.Vectors.{lines_of}
use Rattle.real_form.proofs.form.RealForm.new.Goals as goal

pub returns-in-Ok-with_basis-clause-basis : goal.returns-in-Ok-with_basis-clause-basis
returns-in-Ok-with_basis-clause-basis c =
    let n = dimension_in c.args.induced.now.tables in
    let m = order_of c.args.quotient.now in
    let D = matrix_in c.args.quotient.now c.args.induced.now.tables in
    let cs = tried n (option_copied c.args.given) in
    let rows : lines_of c.in-Ok.lines.items ≡ lines_of c.in-Ok-with_basis.form.lines.items = ap (λ v. lines_of v.items) (sym c.in-Ok-with_basis.ensures.lines) in
    subst (λ (rows : List (ℕ × List K24)). IsRealBasis c.args.induced.now.kind n m D cs (exact_rows k24_laws exact24 rows)) rows c.in-Ok.ensures.basis

pub returns-in-Err-clause-wide : goal.returns-in-Err-clause-wide
returns-in-Err-clause-wide c f e =
    let same : c.in-Err.error ≡ Wide f = cc in
    inl (c.in-Err.ensures.wide f (ap Err same))

pub returns-in-Err-clause-none : goal.returns-in-Err-clause-none
returns-in-Err-clause-none c e =
    let same : c.in-Err.error ≡ NoRealBasis = cc in
    c.in-Err.ensures.none (ap Err same)

pub returns-in-Err-Wide-clause-wide : goal.returns-in-Err-Wide-clause-wide
returns-in-Err-Wide-clause-wide c f e =
    let n = dimension_in c.args.induced.now.tables in
    let w = c.in-Err-Wide.ensures.wide (ap Err c.in-Err-Wide.field-0-is) in
    let two : f ≡ 2 = cc in
    inr (two, (exact_rows k24_laws exact24 (lines_of c.in-Ok.lines.items), w.0, c.in-Ok.ensures.basis, w.1, w.2))

pub returns-in-Ok-with_basis-clause-few : goal.returns-in-Ok-with_basis-clause-few
returns-in-Ok-with_basis-clause-few c = subst (λ v. length v.items ≤ 24) (sym c.in-Ok-with_basis.ensures.lines) c.in-Ok.ensures.few

pub returns-in-Ok-with_basis-clause-dim : goal.returns-in-Ok-with_basis-clause-dim
returns-in-Ok-with_basis-clause-dim c =
    subst (λ v. length v.items ≡ real_dimension c.args.induced.now.kind (dimension_in c.args.induced.now.tables)) (sym c.in-Ok-with_basis.ensures.lines) c.in-Ok.ensures.count

pub returns-in-Ok-with_basis-clause-width : goal.returns-in-Ok-with_basis-clause-width
returns-in-Ok-with_basis-clause-width c =
    let n = dimension_in c.args.induced.now.tables in
    let rows : lines_of c.in-Ok.lines.items ≡ lines_of c.in-Ok-with_basis.form.lines.items = ap (λ v. lines_of v.items) (sym c.in-Ok-with_basis.ensures.lines) in
    subst (λ (rows : List (ℕ × List K24)). HaveWidth (n + n) rows) rows c.in-Ok.ensures.kept.width
