use Rattle.std.proofs.Common.{◌≡◌, ℕ, sym, ◌∙◌, ap, subst, arith, length}
use Rattle.std.specs.Prelude.{Err}
use Rattle.lin_alg.specs.declared.errors.LinError.TheVariants.{Wide}
use Rattle.lin_alg.specs.Rows.{vector}
use Rattle.mode_project.specs.AtomSpace.{size_of}
use Rattle.mode_project.specs.Parts.{rows_in, row_in, AreVectors, image_row}
use Rattle.mode_project.specs.Wide.{IsWideImage}
use Rattle.mode_project.proofs.VectorsLemmas.{vectors-start, vectors-next, item-is}
use Rattle.mode_project.proofs.image.moved_rows.Goals as goal

pub loop-row-init : goal.loop-row-init
loop-row-init g c =
    let f = g.F.Field.field.laws in
    let s = g.S.OfSpace.space in
    vectors-start f g.F.Field.value (size_of s) (λ b. image_row f s c.args.q (row_in f g.F.Field.value (rows_in c.args.rows.now) b)) c.new-images.result.items c.new-images.ensures.items

pub moved_row-requires-clause-row : goal.moved_row-requires-clause-row
moved_row-requires-clause-row g c =
    let e = item-is c.args.rows.now c.loop-row.row-index c.row-item.result c.loop-row-test.true c.row-item.is in
    ap length c.deref.ensures.value ∙ ap length (sym e) ∙ c.requires.long c.loop-row.row-index c.loop-row-test.true

pub loop-row-preserved : goal.loop-row-preserved
loop-row-preserved g c =
    let f = g.F.Field.field.laws in
    let s = g.S.OfSpace.space in
    let value = g.F.Field.value in
    let e = item-is c.args.rows.now c.loop-row.row-index c.row-item.result c.loop-row-test.true c.row-item.is in
    vectors-next f value (size_of s) (λ b. image_row f s c.args.q (row_in f value (rows_in c.args.rows.now) b)) c.loop-row.images.items c.push.new.self.items c.in-Ok.image c.loop-row.row-index c.in-Ok-push.ensures.items c.in-Ok.ensures.len
    (c.in-Ok.ensures.exact ∙ ap (λ xs. image_row f s c.args.q (vector f value xs)) (c.deref.ensures.value ∙ sym e)) c.loop-row.invariant

pub returns-in-Err-clause-wide : goal.returns-in-Err-clause-wide
returns-in-Err-clause-wide g c w =
    let f = g.F.Field.field in
    let s = g.S.OfSpace.space in
    let value = g.F.Field.value in
    let e = item-is c.args.rows.now c.loop-row.row-index c.row-item.result c.loop-row-test.true c.row-item.is in
    let known : c.in-Err.error ≡ Wide = cc in
    (c.loop-row.row-index, c.loop-row-test.true, subst (λ xs. IsWideImage f s c.args.q (vector f.laws value xs)) (c.deref.ensures.value ∙ sym e) (c.in-Err.ensures.wide (ap Err known)))

pub returns-clause-rows : goal.returns-clause-rows
returns-clause-rows g c =
    let f = g.F.Field.field.laws in
    let s = g.S.OfSpace.space in
    let value = g.F.Field.value in
    let ends : c.loop-row.row-index ≡ length c.args.rows.now = omega (arith, c.loop-row-test.false, c.loop-row.auto) in
    subst (λ (n : ℕ). AreVectors f value (size_of s) (λ b. image_row f s c.args.q (row_in f value (rows_in c.args.rows.now) b)) (rows_in c.loop-row.images.items) n) ends c.loop-row.invariant
