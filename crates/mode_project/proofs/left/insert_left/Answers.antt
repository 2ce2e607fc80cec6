use Rattle.std.proofs.Common.{◌≡◌, ◌+◌, ◌*◌, suc, IsTrue, inl, inr, sym, ◌∙◌, ap, subst, arith, length}
use Rattle.std.specs.Prelude.{Err}
use Rattle.lin_alg.specs.Rows.{vector}
use Rattle.lin_alg.specs.declared.errors.LinError.TheVariants.{Wide}
use Rattle.mode_project.specs.AtomSpace.{size_of}
use Rattle.mode_project.specs.AtomSpaceLaws.{column-below}
use Rattle.mode_project.specs.Parts.{rows_in, row_in}
use Rattle.mode_project.specs.Wide.{left_row}
use Rattle.mode_project.proofs.LeftCode.{left-written, image-at}
use Rattle.mode_project.proofs.RangeLemmas.{held-next, held-wide}
use Rattle.mode_project.proofs.VectorsLemmas.{rows-length}
use Rattle.mode_project.proofs.left.insert_left.Goals as goal

pub returns-in-Err-clause-wide : goal.returns-in-Err-clause-wide
returns-in-Err-clause-wide g c w =
    let f = g.F.Field.field in
    let value = g.F.Field.value in
    let s = g.S.OfSpace.space in
    let rows = rows_in c.args.rows.now in
    let bad = c.in-Err.ensures.wide in
    inl (
      c.args.n,
      bad.0,
      c.requires.element,
      bad.1,
      inr (
        c.args.i,
        c.requires.column,
        subst (λ x. IsTrue (f.is_wide_difference x (row_in f.laws value rows bad.0 c.args.i)))
            (image-at f value s c.args.stab.now rows (length c.args.rows.now) (rows-length c.args.rows.now) c.args.n c.args.i c.requires.column (rows_in c.args.images.now) c.requires.images bad.0 bad.1) bad.2,
      ),
    )

pub insert-requires-clause-width : goal.insert-requires-clause-width
insert-requires-clause-width g c = c.fill_left.auto.row ∙ c.requires.room ∙ sym c.requires.held.width

pub returns-in-Ok-insert-clause-held : goal.returns-in-Ok-insert-clause-held
returns-in-Ok-insert-clause-held g c =
    let f = g.F.Field.field in
    let value = g.F.Field.value in
    let s = g.S.OfSpace.space in
    let rows = rows_in c.args.rows.now in
    let m = length c.args.rows.now in
    let k = c.args.n * size_of s + c.args.i in
    let n : suc k ≡ c.args.n * size_of s + (c.args.i + 1) = omega arith in
    let ok = c.in-Ok-insert.ensures in
    let x = left-written f value s c.args.stab.now rows m (rows-length c.args.rows.now) c.args.n c.args.i c.requires.column (rows_in c.args.images.now) c.fill_left.new.row c.requires.images (c.fill_left.auto.row ∙ c.requires.room) c.in-Ok.ensures.exact in
    held-next f value m (left_row f.laws s c.args.stab.now (row_in f.laws value rows)) k (c.args.n * size_of s + (c.args.i + 1)) c.args.form.now c.insert.new.form (vector f.laws value c.fill_left.new.row) n c.requires.held x ok.width ok.whole ok.form ok.span

pub returns-in-Err-insert-clause-wide : goal.returns-in-Err-insert-clause-wide
returns-in-Err-insert-clause-wide g c w =
    let f = g.F.Field.field in
    let value = g.F.Field.value in
    let s = g.S.OfSpace.space in
    let rows = rows_in c.args.rows.now in
    let m = length c.args.rows.now in
    let k = c.args.n * size_of s + c.args.i in
    let x = left-written f value s c.args.stab.now rows m (rows-length c.args.rows.now) c.args.n c.args.i c.requires.column (rows_in c.args.images.now) c.fill_left.new.row c.requires.images (c.fill_left.auto.row ∙ c.requires.room) c.in-Ok.ensures.exact in
    inr (held-wide f value m (left_row f.laws s c.args.stab.now (row_in f.laws value rows)) k (length c.args.stab.now * size_of s) c.args.form.now (vector f.laws value c.fill_left.new.row) c.requires.held x
    (column-below (length c.args.stab.now) (size_of s) c.args.n c.args.i c.requires.element c.requires.column) (c.in-Err-insert.ensures.wide (ap Err (let e : c.in-Err-insert.error ≡ Wide = cc in e))))
