use Rattle.std.proofs.Common.{◌≡◌, ◌<◌, ℕ, length}
use Rattle.lin_alg.specs.Matrix.{entry}
use Rattle.lin_alg.specs.Rows.{exact_rows}
use Rattle.lin_alg.specs.Spans.{row_vectors}
use Rattle.mode_project.specs.Modes.{vector_at}
use Rattle.mode_project.proofs.table.table_of.Given as goal

abbrev pub invariant-loop-i : goal.invariant-loop-i
invariant-loop-i g l =
    let f = g.F.Field.field.laws in
    let v = g.F.Field.value in
    record {
      rows : l.table.rows ≡ length l.form.rows;
      cols : l.table.cols ≡ l.form.width;
      done : (k : ℕ) → k < l.i → entry f v l.table k ≡ vector_at f (row_vectors (exact_rows f v l.form.rows)) k;
    }
