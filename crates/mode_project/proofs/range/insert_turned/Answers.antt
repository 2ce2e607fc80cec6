use Rattle.std.proofs.Common.{◌≡◌, ◌<◌, ◌+◌, ◌*◌, ℕ, suc, inl, inr, sym, ◌∙◌, ap, subst, arith}
use Rattle.std.specs.Prelude.{Err, slice_index_or}
use Rattle.lin_alg.specs.Rows.{vector}
use Rattle.lin_alg.specs.declared.errors.LinError.TheVariants.{Wide}
use Rattle.mode_project.specs.AtomSpace.{size_of}
use Rattle.mode_project.specs.AtomSpaceLaws.{column-below}
use Rattle.mode_project.specs.Parts.{rows_in, row_in, image_row, spread}
use Rattle.mode_project.proofs.RangeLemmas.{held-next, held-wide, turned-same, spread-at, images-wide}
use Rattle.mode_project.proofs.range.insert_turned.Goals as goal

pub returns-in-Err-clause-wide : goal.returns-in-Err-clause-wide
returns-in-Err-clause-wide g c w =
    let s = g.S.OfSpace.space in
    let f = g.F.Field.field in
    let value = g.F.Field.value in
    let way = slice_index_or c.args.ways.now c.args.i (0, 0) in
    let own = c.requires.ways.each c.args.i c.requires.atom in
    let lp : way.1 < s.group.order = subst (λ (n : ℕ). n < s.group.order) (sym own.inverse) (c.requires.laws.group.inverse_below way.0 own.below) in
    inl (images-wide f s way.0 way.1 c.args.a (row_in f.laws value (rows_in c.args.columns.now)) (row_in f.laws value (rows_in c.args.images.now)) own.below lp c.requires.column c.requires.images.exact c.in-Err.ensures.wide)

pub returns-in-Ok-insert-clause-held : goal.returns-in-Ok-insert-clause-held
returns-in-Ok-insert-clause-held g c =
    let s = g.S.OfSpace.space in
    let f = g.F.Field.field in
    let value = g.F.Field.value in
    let cols = row_in f.laws value (rows_in c.args.columns.now) in
    let images = row_in f.laws value (rows_in c.args.images.now) in
    let way = slice_index_or c.args.ways.now c.args.i (0, 0) in
    let k = c.args.i * s.each + c.args.a in
    let n : suc k ≡ c.args.i * s.each + (c.args.a + 1) = omega arith in
    let ok = c.in-Ok-insert.ensures in
    let x = c.in-Ok.ensures.exact ∙ turned-same f.laws s way.1 c.args.a images (λ b. image_row f.laws s way.0 (cols b)) c.requires.images.exact ∙ spread-at f.laws s c.args.ways.now cols c.args.i c.args.a c.requires.column in
    held-next f value (size_of s) (spread f.laws s c.args.ways.now cols) k (c.args.i * s.each + (c.args.a + 1)) c.args.form.now c.insert.new.form (vector f.laws value c.fill_turned.new.into) n c.requires.held x ok.width ok.whole ok.form ok.span

pub returns-in-Err-insert-clause-wide : goal.returns-in-Err-insert-clause-wide
returns-in-Err-insert-clause-wide g c w =
    let s = g.S.OfSpace.space in
    let f = g.F.Field.field in
    let value = g.F.Field.value in
    let cols = row_in f.laws value (rows_in c.args.columns.now) in
    let images = row_in f.laws value (rows_in c.args.images.now) in
    let way = slice_index_or c.args.ways.now c.args.i (0, 0) in
    let k = c.args.i * s.each + c.args.a in
    let x = c.in-Ok.ensures.exact ∙ turned-same f.laws s way.1 c.args.a images (λ b. image_row f.laws s way.0 (cols b)) c.requires.images.exact ∙ spread-at f.laws s c.args.ways.now cols c.args.i c.args.a c.requires.column in
    inr (held-wide f value (size_of s) (spread f.laws s c.args.ways.now cols) k (size_of s) c.args.form.now (vector f.laws value c.fill_turned.new.into) c.requires.held x (column-below s.atoms s.each c.args.i c.args.a c.requires.atom c.requires.column) (c.in-Err-insert.ensures.wide (ap Err (let k : c.in-Err-insert.error ≡ Wide = cc in k))))

pub insert-requires-clause-width : goal.insert-requires-clause-width
insert-requires-clause-width g c = c.fill_turned.auto.into ∙ c.requires.scratch ∙ sym c.requires.held.width

pub fill_turned-requires-clause-element : goal.fill_turned-requires-clause-element
fill_turned-requires-clause-element g c =
    let s = g.S.OfSpace.space in
    let way = slice_index_or c.args.ways.now c.args.i (0, 0) in
    let own = c.requires.ways.each c.args.i c.requires.atom in
    subst (λ (n : ℕ). n < s.group.order) (sym own.inverse) (c.requires.laws.group.inverse_below way.0 own.below)
