use Rattle.std.proofs.Common.{◌≡◌, ◌<◌, sym, ◌∙◌, ap, arith, below_more, length}
use Rattle.cyclo24.specs.ExactK24.{k24, k24_laws}
use Rattle.cyclo24.specs.K24.{exact24}
use Rattle.lin_alg.specs.Matrix.{entry}
use Rattle.lin_alg.specs.Rows.{vector, exact_rows}
use Rattle.lin_alg.specs.Spans.{row_vectors}
use Rattle.mode_project.specs.Modes.{vector_at}
use Rattle.mode_project.proofs.JointLemmas.{width-at, row-vector}
use Rattle.mode_project.proofs.ShortLemmas.{values-vector, values-length}
use Rattle.mode_project.proofs.short.lengthened_table.Goals as goal

pub put_row-requires-clause-width : goal.put_row-requires-clause-width
put_row-requires-clause-width g c =
    let rows = c.args.form.now.rows in
    let l : c.loop-i.i < length rows = omega (arith, c.loop-i-test.true) in
    ap length c.deref.ensures.value ∙ values-length exact24 g.S.Short.exact c.in_ok-row.row.items c.row.result.now c.in_ok-row.ensures ∙ ap length c.row.ensures ∙ width-at c.args.form.now.width rows c.loop-i.i l c.is_whole-whole.ensures.form.shape
    ∙ sym c.loop-i.invariant.cols

pub loop-i-preserved : goal.loop-i-preserved
loop-i-preserved g c =
    let exact = g.S.Short.exact in
    let rows = c.args.form.now.rows in
    let i = c.loop-i.i in
    let l : i < length rows = omega (arith, c.loop-i-test.true) in
    let new = c.put_row.new.table in
    let row = ap (vector k24_laws exact24) c.deref.ensures.value ∙ values-vector exact24 exact c.in_ok-row.row.items c.row.result.now c.in_ok-row.ensures ∙ ap (vector k24_laws exact) c.row.ensures in
    record {
      rows = c.put_row.ensures.rows ∙ c.loop-i.invariant.rows;
      cols = c.put_row.ensures.cols ∙ c.loop-i.invariant.cols;
      done = below_more (λ k. entry k24_laws exact24 new k ≡ vector_at k24_laws (row_vectors (exact_rows k24_laws exact rows)) k) i
          (λ k m. let n : k ≡ i → ⊥ = λ e. absurd (omega (arith, e, m)) in c.put_row.ensures.others k n ∙ c.loop-i.invariant.done k m)
          (c.put_row.ensures.here ∙ row ∙ sym (row-vector k24 exact rows i l));
    }
