use Rattle.std.proofs.Common.{◌≡◌, ◌<◌, ℕ, sym, ◌∙◌, ap, subst, length}
use Rattle.lin_alg.specs.Rows.{vector}
use Rattle.mode_project.specs.AtomSpace.{size_of}
use Rattle.mode_project.specs.Parts.{rows_in, row_in, image_row}
use Rattle.mode_project.specs.Scaled.{IsInImages}
use Rattle.mode_project.proofs.QuickLemmas.{inside-next, images-subspace, image-in}
use Rattle.mode_project.proofs.VectorsLemmas.{item-is}
use Rattle.mode_project.proofs.quick.insert_image.Goals as goal

pub fill_image-requires-clause-row : goal.fill_image-requires-clause-row
fill_image-requires-clause-row g c =
    let l : c.args.b < length c.args.columns.now = subst (λ (n : ℕ). c.args.b < n) (sym c.requires.count) c.requires.column in
    let e = item-is c.args.columns.now c.args.b c.index-columns-b.result l c.index-columns-b.is in
    ap length c.deref.ensures.value ∙ ap length (sym e) ∙ c.requires.long c.args.b l

pub fill_image-requires-clause-zero : goal.fill_image-requires-clause-zero
fill_image-requires-clause-zero g c r = ap (λ u. u r) c.clear.ensures

pub returns-in-Ok-insert : goal.returns-in-Ok-insert
returns-in-Ok-insert g c =
    let s = g.S.OfSpace.space in
    let f = g.F.Field.field.laws in
    let value = g.F.Field.value in
    let cols = row_in f value (rows_in c.args.columns.now) in
    let V = IsInImages f s cols in
    let l : c.args.b < length c.args.columns.now = subst (λ (n : ℕ). c.args.b < n) (sym c.requires.count) c.requires.column in
    let e = item-is c.args.columns.now c.args.b c.index-columns-b.result l c.index-columns-b.is in
    let x = vector f value c.fill_image.new.image in
    let is : x ≡ image_row f s c.args.q (cols c.args.b) = c.in-Ok.ensures.exact ∙ ap (λ xs. image_row f s c.args.q (vector f value xs)) (c.deref.ensures.value ∙ sym e) in
    let own : V x = subst V (sym is) (image-in f s cols c.args.q c.args.b c.requires.element c.requires.column) in
    let ok = c.in-Ok-insert.ensures in
    record { inside = inside-next f value (size_of s) V (images-subspace f s cols) c.args.form.now c.insert.new.form x c.requires.inside own ok.width ok.whole ok.form ok.span }
