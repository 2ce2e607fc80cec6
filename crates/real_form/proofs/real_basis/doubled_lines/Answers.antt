use Rattle.std.proofs.Common.{◌≡◌, ◌+◌, ℕ, ◌∙◌, ap, subst}
use Rattle.cyclo24.specs.K24.{exact24}
use Rattle.cyclo24.specs.ExactK24.{k24_laws}
use Rattle.cyclo24.specs.ExactZ24.{z24_laws}
use Rattle.lin_alg.specs.Matrices.{IsRepresentation, AreEqualBelow, unit_entry}
use Rattle.lin_alg.specs.Rows.{exact_rows, HaveWidth}
use Rattle.super_group.specs.Quotient.{quotient_group}
use Rattle.induce.specs.Tables.{dimension_in, matrix_in}
use Rattle.real_form.specs.Bases.{unit_rows}
use Rattle.real_form.specs.Vectors.{lines_of}
use Rattle.real_form.proofs.KeptLemmas.{doubled-kept}
use Rattle.real_form.proofs.real_basis.doubled_lines.Goals as goal

pub returns-in-Ok-clause-rows : goal.returns-in-Ok-clause-rows
returns-in-Ok-clause-rows c = c.in-Ok.ensures.rows ∙ ap (λ n. unit_rows k24_laws 0 (n + n)) c.dim-n.ensures.value

pub returns-in-Ok-clause-kept : goal.returns-in-Ok-clause-kept
returns-in-Ok-clause-kept c =
    let s = c.args.quotient.now in
    let n = dimension_in c.args.induced.now.tables in
    let D = matrix_in s c.args.induced.now.tables in
    let e = c.dim-n.ensures.value in
    let rows = lines_of c.in-Ok.lines.items in
    let rep : IsRepresentation z24_laws (quotient_group s) n D = subst (λ (k : ℕ). IsRepresentation z24_laws (quotient_group s) k D) e (c.dim-n.ensures.multiplies s c.requires.of) in
    let one : AreEqualBelow n (D 0) (unit_entry z24_laws) = subst (λ (k : ℕ). AreEqualBelow k (D 0) (unit_entry z24_laws)) e (c.dim-n.ensures.identity s c.requires.of) in
    let width : HaveWidth (n + n) rows = subst (λ (k : ℕ). HaveWidth (k + k) rows) e c.in-Ok.ensures.width in
    let exact : exact_rows k24_laws exact24 rows ≡ unit_rows k24_laws 0 (n + n) = c.in-Ok.ensures.rows ∙ ap (λ k. unit_rows k24_laws 0 (k + k)) e in
    doubled-kept s c.order-order.ensures.quotient n D rep one rows width exact

pub returns-in-Ok-clause-count : goal.returns-in-Ok-clause-count
returns-in-Ok-clause-count c = c.in-Ok.ensures.len ∙ ap (λ n. n + n) c.dim-n.ensures.value
