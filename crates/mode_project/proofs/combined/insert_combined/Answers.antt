use Rattle.std.proofs.Common.{◌≡◌, ◌+◌, inl, inr, sym, ◌∙◌, ap, add-one, length}
use Rattle.std.specs.Prelude.{Err}
use Rattle.lin_alg.specs.Matrix.{entry}
use Rattle.lin_alg.specs.Rows.{vector}
use Rattle.lin_alg.specs.declared.errors.LinError.TheVariants.{Wide}
use Rattle.mode_project.specs.DirectionParts.{combined}
use Rattle.mode_project.specs.Parts.{rows_in, row_in}
use Rattle.mode_project.proofs.RangeLemmas.{held-next, held-wide}
use Rattle.mode_project.proofs.combined.insert_combined.Goals as goal

pub returns-in-Err-clause-wide : goal.returns-in-Err-clause-wide
returns-in-Err-clause-wide g c w =
    let bad = c.in-Err.ensures.wide in
    inl (c.args.n, bad.0, c.requires.factors, bad.1, bad.2)

pub insert-requires-clause-width : goal.insert-requires-clause-width
insert-requires-clause-width g c = c.fill_combined.auto.row ∙ sym c.requires.held.width

pub returns-in-Ok-insert-clause-held : goal.returns-in-Ok-insert-clause-held
returns-in-Ok-insert-clause-held g c =
    let f = g.F.Field.field in
    let value = g.F.Field.value in
    let a = combined f.laws (length c.args.rows.now) (entry f.laws value c.args.x.now) (row_in f.laws value (rows_in c.args.rows.now)) in
    let ok = c.in-Ok-insert.ensures in
    held-next f value (length c.args.row.now) a c.args.n (c.args.n + 1) c.args.form.now c.insert.new.form (vector f.laws value c.fill_combined.new.row) (sym (add-one c.args.n)) c.requires.held c.in-Ok.ensures.exact ok.width ok.whole ok.form ok.span

pub returns-in-Err-insert-clause-wide : goal.returns-in-Err-insert-clause-wide
returns-in-Err-insert-clause-wide g c w =
    let f = g.F.Field.field in
    let value = g.F.Field.value in
    let a = combined f.laws (length c.args.rows.now) (entry f.laws value c.args.x.now) (row_in f.laws value (rows_in c.args.rows.now)) in
    inr (held-wide f value (length c.args.row.now) a c.args.n c.args.x.now.rows c.args.form.now (vector f.laws value c.fill_combined.new.row) c.requires.held c.in-Ok.ensures.exact c.requires.factors (c.in-Err-insert.ensures.wide (ap Err (let k : c.in-Err-insert.error ≡ Wide = cc in k))))
