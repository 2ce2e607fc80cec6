use Rattle.std.proofs.Common.{◌*◌, refl, ◌∙◌}
use Rattle.lin_alg.specs.Rows.{vector}
use Rattle.mode_project.specs.AtomSpace.{size_of}
use Rattle.mode_project.specs.Parts.{rows_in, row_in}
use Rattle.mode_project.specs.Scaled.{IsInImages}
use Rattle.mode_project.proofs.QuickLemmas.{inside-start, images-subspace, images-form}
use Rattle.mode_project.proofs.quick.quick_form.Goals as goal

pub insert_to_rank-requires-clause-inside : goal.insert_to_rank-requires-clause-inside
insert_to_rank-requires-clause-inside g c =
    let s = g.S.OfSpace.space in
    let f = g.F.Field.field.laws in
    let value = g.F.Field.value in
    let cols = row_in f value (rows_in c.args.columns.now) in
    let width = c.new-form.ensures.width ∙ (λ z. (c.atoms-2.ensures.value ∙ c.requires.orbit.atoms) z * c.requires.table.each z) in
    inside-start f value (size_of s) (IsInImages f s cols) (images-subspace f s cols) c.new-form.result width c.new-form.ensures.whole c.new-form.ensures.rows c.new-form.ensures.form

pub returns-then-insert_to_rank-clause-range : goal.returns-then-insert_to_rank-clause-range
returns-then-insert_to_rank-clause-range g c =
    let s = g.S.OfSpace.space in
    let f = g.F.Field.field.laws in
    let value = g.F.Field.value in
    let cols = row_in f value (rows_in c.args.columns.now) in
    let h = c.if-insert_to_rank.ensures in
    images-form f s c.requires.laws (vector f value c.args.weights.now) c.requires.class value cols c.in-Some.rank c.insert_to_rank.new.form c.requires.columns.exact c.in-Some.ensures (h.inside refl) (h.rank refl)
