use Rattle.std.proofs.Common.{◌≡◌, ◌<◌, ℕ, length}
use Rattle.cyclo24.specs.ExactK24.{k24_laws}
use Rattle.cyclo24.specs.K24.{exact24}
use Rattle.lin_alg.specs.Matrix.{entry}
use Rattle.lin_alg.specs.Rows.{exact_rows}
use Rattle.lin_alg.specs.Spans.{row_vectors}
use Rattle.mode_project.specs.Modes.{vector_at}
use Rattle.mode_project.proofs.short.lengthened_table.Given as goal

abbrev pub invariant-loop-i : goal.invariant-loop-i
invariant-loop-i g l = record {
  rows : l.table.rows ≡ length l.form.rows;
  cols : l.table.cols ≡ l.form.width;
  done : (k : ℕ) → k < l.i → entry k24_laws exact24 l.table k ≡ vector_at k24_laws (row_vectors (exact_rows k24_laws g.S.Short.exact l.form.rows)) k;
}
