use Rattle.std.proofs.Common.{◌≡◌, ◌<◌, ◌≤◌, ◌+◌, ℕ, refl, sym, ◌∙◌, ap, subst, length}
use Rattle.std.proofs.lemmas.List.{length-map}
use Rattle.std.specs.Prelude.{Err}
use Rattle.lin_alg.specs.declared.errors.LinError.TheVariants.{Wide}
use Rattle.cyclo24.specs.K24.{exact24}
use Rattle.cyclo24.specs.ExactK24.{k24_laws}
use Rattle.lin_alg.specs.Rows.{exact_rows, HaveWidth}
use Rattle.super_group.specs.Quotient.{order_of}
use Rattle.induce.specs.Tables.{dimension_in, matrix_in}
use Rattle.real_form.specs.Bases.{row_at}
use Rattle.real_form.specs.Vectors.{lines_of, vector_at, AreLong}
use Rattle.real_form.specs.Wide.{IsWideLifted}
use Rattle.real_form.proofs.AnswerLemmas.{error-is}
use Rattle.real_form.proofs.FactorLemmas.{pivots-length, pivots-below, left-elements, left-small, right-elements, right-small, vectors-are, stacked-moved, factors-by}
use Rattle.real_form.proofs.KeepLemmas.{images-wide, rows-wide}
use Rattle.real_form.proofs.assembly.factors.Goals as goal

pub lifted_rows-requires : goal.lifted_rows-requires
lifted_rows-requires c = subst (λ (n : ℕ). HaveWidth (n + n) (lines_of c.args.lines.now)) (sym c.dim.ensures.value) c.requires.basis.width

pub returns-in-Err-clause-wide : goal.returns-in-Err-clause-wide
returns-in-Err-clause-wide c e =
    let s = c.args.quotient.now in
    let rows = lines_of c.args.lines.now in
    let same : c.in-Err.error ≡ Wide = error-is c.in-Err.error Wide _ refl e in
    let long : length c.args.lines.now ≡ length rows = rw length-map refl in
    rows-wide (dimension_in c.args.induced.now.tables) (order_of s) (length c.args.lines.now) (matrix_in s c.args.induced.now.tables) rows long
    (subst (λ (n : ℕ). (k : ℕ) × (k < length c.args.lines.now) × IsWideLifted n (row_at k24_laws (exact_rows k24_laws exact24 rows) k)) c.dim.ensures.value (c.in-Err.ensures.wide (ap Err same)))

pub stacked-requires-clause-vectors : goal.stacked-requires-clause-vectors
stacked-requires-clause-vectors c =
    subst (λ vs. AreLong (dimension_in c.args.induced.now.tables) vs) (sym c.deref.ensures.value) (subst (λ (n : ℕ). AreLong n c.in-Ok.vectors.items) c.dim.ensures.value c.in-Ok.ensures.long)

pub stacked-requires-clause-square : goal.stacked-requires-clause-square
stacked-requires-clause-square c =
    let rows = lines_of c.args.lines.now in
    let long : length c.args.lines.now ≡ length rows = rw length-map refl in
    ap length c.deref.ensures.value ∙ c.in-Ok.ensures.len ∙ long ∙ sym (pivots-length rows c.deref-2.result.now (c.deref-2.ensures.value ∙ c.in_ok-pivots.ensures))

pub stacked-requires-clause-few : goal.stacked-requires-clause-few
stacked-requires-clause-few c =
    let rows = lines_of c.args.lines.now in
    let long : length c.args.lines.now ≡ length rows = rw length-map refl in
    subst (λ (k : ℕ). k ≤ 24) (long ∙ sym (pivots-length rows c.deref-2.result.now (c.deref-2.ensures.value ∙ c.in_ok-pivots.ensures))) c.requires.few

pub stacked-requires-clause-pivots : goal.stacked-requires-clause-pivots
stacked-requires-clause-pivots c =
    let n = dimension_in c.args.induced.now.tables in
    pivots-below (lines_of c.args.lines.now) c.deref-2.result.now (c.deref-2.ensures.value ∙ c.in_ok-pivots.ensures) (n + n) c.requires.basis.width

pub stacked-requires-clause-elements : goal.stacked-requires-clause-elements
stacked-requires-clause-elements c =
    left-elements c.args.quotient.now c.order-order.ensures.quotient (length c.translations-count.result.now) (ap length c.translations-count.ensures)

pub stacked-requires-clause-small : goal.stacked-requires-clause-small
stacked-requires-clause-small c =
    left-small c.args.quotient.now c.order-order.ensures.quotient (length c.translations-count.result.now) (ap length c.translations-count.ensures) c.order-order.result c.order-order.ensures.value c.order-order.ensures.few

pub returns-in-Err-stacked-clause-wide : goal.returns-in-Err-stacked-clause-wide
returns-in-Err-stacked-clause-wide c e =
    let s = c.args.quotient.now in
    let n = dimension_in c.args.induced.now.tables in
    let rows = lines_of c.args.lines.now in
    let same : c.in-Err-stacked.error ≡ Wide = error-is c.in-Err-stacked.error Wide _ refl e in
    let long : length c.args.lines.now ≡ length rows = rw length-map refl in
    images-wide n (order_of s) (length c.deref-2.result.now) (matrix_in s c.args.induced.now.tables) rows (vector_at c.deref.result.now)
    (pivots-length rows c.deref-2.result.now (c.deref-2.ensures.value ∙ c.in_ok-pivots.ensures))
    (vectors-are c.dim.result n rows (length c.args.lines.now) c.in-Ok.vectors.items c.deref.result.now c.dim.ensures.value long c.deref.ensures.value c.in-Ok.ensures.exact)
    (c.in-Err-stacked.ensures.wide (ap Err same))

pub stacked-requires-2-clause-vectors : goal.stacked-requires-2-clause-vectors
stacked-requires-2-clause-vectors c =
    subst (λ vs. AreLong (dimension_in c.args.induced.now.tables) vs) (sym c.deref-3.ensures.value) (subst (λ (n : ℕ). AreLong n c.in-Ok.vectors.items) c.dim.ensures.value c.in-Ok.ensures.long)

pub stacked-requires-2-clause-square : goal.stacked-requires-2-clause-square
stacked-requires-2-clause-square c =
    let rows = lines_of c.args.lines.now in
    let long : length c.args.lines.now ≡ length rows = rw length-map refl in
    ap length c.deref-3.ensures.value ∙ c.in-Ok.ensures.len ∙ long ∙ sym (pivots-length rows c.deref-4.result.now (c.deref-4.ensures.value ∙ c.in_ok-pivots.ensures))

pub stacked-requires-2-clause-few : goal.stacked-requires-2-clause-few
stacked-requires-2-clause-few c =
    let rows = lines_of c.args.lines.now in
    let long : length c.args.lines.now ≡ length rows = rw length-map refl in
    subst (λ (k : ℕ). k ≤ 24) (long ∙ sym (pivots-length rows c.deref-4.result.now (c.deref-4.ensures.value ∙ c.in_ok-pivots.ensures))) c.requires.few

pub stacked-requires-2-clause-pivots : goal.stacked-requires-2-clause-pivots
stacked-requires-2-clause-pivots c =
    let n = dimension_in c.args.induced.now.tables in
    pivots-below (lines_of c.args.lines.now) c.deref-4.result.now (c.deref-4.ensures.value ∙ c.in_ok-pivots.ensures) (n + n) c.requires.basis.width

pub stacked-requires-2-clause-elements : goal.stacked-requires-2-clause-elements
stacked-requires-2-clause-elements c =
    right-elements c.args.quotient.now c.order-order.ensures.quotient (length c.translations-count.result.now) (ap length c.translations-count.ensures) c.len-listed.result (c.len-listed.ensures.value ∙ ap (λ g. length g.ops) c.group.ensures)

pub stacked-requires-2-clause-small : goal.stacked-requires-2-clause-small
stacked-requires-2-clause-small c =
    right-small c.args.quotient.now c.order-order.ensures.quotient (length c.translations-count.result.now) (ap length c.translations-count.ensures) c.len-listed.result c.order-order.result (c.len-listed.ensures.value ∙ ap (λ g. length g.ops) c.group.ensures)
    c.order-order.ensures.value c.order-order.ensures.few

pub returns-in-Ok-stacked-2-clause-factors : goal.returns-in-Ok-stacked-2-clause-factors
returns-in-Ok-stacked-2-clause-factors c =
    let s = c.args.quotient.now in
    let n = dimension_in c.args.induced.now.tables in
    let D = matrix_in s c.args.induced.now.tables in
    let rows = lines_of c.args.lines.now in
    let long : length c.args.lines.now ≡ length rows = rw length-map refl in
    let vs = c.in-Ok.vectors.items in
    let pivots = c.in_ok-pivots.pivots.items in
    let count : ℕ = length c.translations-count.result.now in
    let left = c.in-Ok-stacked.matrices in
    let right = c.in-Ok-stacked-2.rotations in
    let one = c.in-Ok-stacked.ensures in
    let two = c.in-Ok-stacked-2.ensures in
    factors-by n D s rows pivots (vector_at vs) left right count c.len-listed.result c.in_ok-pivots.ensures
    (vectors-are c.dim.result n rows (length c.args.lines.now) vs vs c.dim.ensures.value long refl c.in-Ok.ensures.exact) (ap length c.translations-count.ensures) (c.len-listed.ensures.value ∙ ap (λ g. length g.ops) c.group.ensures)
    (stacked-moved n D pivots c.deref-2.result.now c.deref.result.now vs count 1 left c.deref-2.ensures.value c.deref.ensures.value (record { rows = one.rows; cols = one.cols; entries = one.entries }))
    (stacked-moved n D pivots c.deref-4.result.now c.deref-3.result.now vs c.len-listed.result count right c.deref-4.ensures.value c.deref-3.ensures.value (record { rows = two.rows; cols = two.cols; entries = two.entries }))

pub returns-clause-wide : goal.returns-clause-wide
returns-clause-wide c e =
    let s = c.args.quotient.now in
    let n = dimension_in c.args.induced.now.tables in
    let rows = lines_of c.args.lines.now in
    let same : c.in-Err-stacked-2.error ≡ Wide = error-is c.in-Err-stacked-2.error Wide _ refl e in
    let long : length c.args.lines.now ≡ length rows = rw length-map refl in
    images-wide n (order_of s) (length c.deref-4.result.now) (matrix_in s c.args.induced.now.tables) rows (vector_at c.deref-3.result.now)
    (pivots-length rows c.deref-4.result.now (c.deref-4.ensures.value ∙ c.in_ok-pivots.ensures))
    (vectors-are c.dim.result n rows (length c.args.lines.now) c.in-Ok.vectors.items c.deref-3.result.now c.dim.ensures.value long c.deref-3.ensures.value c.in-Ok.ensures.exact)
    (c.in-Err-stacked-2.ensures.wide (ap Err same))
