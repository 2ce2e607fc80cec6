use Rattle.std.proofs.Common.{◌≡◌, ◌<◌, ℕ, sym, ◌∙◌, ap, subst, arith, length}
use Rattle.lin_alg.specs.Rows.{vector, exact_rows}
use Rattle.lin_alg.specs.Spans.{row_vectors}
use Rattle.mode_project.specs.Modes.{vector_at}
use Rattle.mode_project.specs.Parts.{rows_in, AreVectors}
use Rattle.mode_project.proofs.JointLemmas.{width-at, row-vector}
use Rattle.mode_project.proofs.VectorsLemmas.{vectors-start, vectors-next}
use Rattle.mode_project.proofs.table.rows_of.Goals as goal

pub loop-k-init : goal.loop-k-init
loop-k-init g c =
    let f = g.F.Field.field.laws in
    let value = g.F.Field.value in
    vectors-start f value c.args.form.now.width (vector_at f (row_vectors (exact_rows f value c.args.form.now.rows))) c.new-rows.result.items c.new-rows.ensures.items

pub loop-k-preserved : goal.loop-k-preserved
loop-k-preserved g c =
    let f = g.F.Field.field in
    let value = g.F.Field.value in
    let rows = c.args.form.now.rows in
    let k = c.loop-k.k in
    let l : k < length rows = omega (arith, c.loop-k-test.true, c.len-k-end.ensures) in
    let e = c.in-Ok.ensures.row ∙ c.row.ensures in
    vectors-next f.laws value c.args.form.now.width (vector_at f.laws (row_vectors (exact_rows f.laws value rows))) c.loop-k.rows.items c.push.new.self.items c.in-Ok.row k c.in-Ok-push.ensures.items
    (ap length e ∙ width-at c.args.form.now.width rows k l c.is_whole-whole.ensures.form.shape)
    (ap (vector f.laws value) e ∙ sym (row-vector f value rows k l)) c.loop-k.invariant

pub returns-clause-rows : goal.returns-clause-rows
returns-clause-rows g c =
    let f = g.F.Field.field.laws in
    let value = g.F.Field.value in
    let ends : c.loop-k.k ≡ length c.args.form.now.rows = omega (arith, c.loop-k-test.false, c.loop-k.auto.k-end, c.len-k-end.ensures) in
    subst (λ (n : ℕ). AreVectors f value c.args.form.now.width (vector_at f (row_vectors (exact_rows f value c.args.form.now.rows))) (rows_in c.loop-k.rows.items) n) ends c.loop-k.invariant
