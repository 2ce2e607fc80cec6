use Rattle.std.proofs.Common.{◌≡◌, ◌<◌, sym, ◌∙◌, ap, arith, below_more, length}
use Rattle.lin_alg.specs.Matrix.{entry}
use Rattle.lin_alg.specs.Rows.{vector, exact_rows}
use Rattle.lin_alg.specs.Spans.{row_vectors}
use Rattle.mode_project.specs.Modes.{vector_at}
use Rattle.mode_project.proofs.JointLemmas.{width-at, row-vector}
use Rattle.mode_project.proofs.table.table_of.Goals as goal

pub put_row-requires-clause-width : goal.put_row-requires-clause-width
put_row-requires-clause-width g c =
    let rows = c.args.form.now.rows in
    let l : c.loop-i.i < length rows = omega (arith, c.loop-i-test.true) in
    ap length c.row.ensures ∙ width-at c.args.form.now.width rows c.loop-i.i l c.is_whole-whole.ensures.form.shape ∙ sym c.loop-i.invariant.cols

pub loop-i-preserved : goal.loop-i-preserved
loop-i-preserved g c =
    let f = g.F.Field.field in
    let value = g.F.Field.value in
    let rows = c.args.form.now.rows in
    let i = c.loop-i.i in
    let l : i < length rows = omega (arith, c.loop-i-test.true) in
    let new = c.put_row.new.table in
    record {
      rows = c.put_row.ensures.rows ∙ c.loop-i.invariant.rows;
      cols = c.put_row.ensures.cols ∙ c.loop-i.invariant.cols;
      done = below_more (λ k. entry f.laws value new k ≡ vector_at f.laws (row_vectors (exact_rows f.laws value rows)) k) i
          (λ k m. let n : k ≡ i → ⊥ = λ e. absurd (omega (arith, e, m)) in c.put_row.ensures.others k n ∙ c.loop-i.invariant.done k m)
          (c.put_row.ensures.here ∙ ap (vector f.laws value) c.row.ensures ∙ sym (row-vector f value rows i l));
    }
