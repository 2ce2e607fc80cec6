use Rattle.lin_alg.specs.Rows.{exact_rows}
use Rattle.lin_alg.specs.Spans.{row_vectors}
use Rattle.mode_project.specs.Modes.{vector_at}
use Rattle.mode_project.specs.Parts.{rows_in, AreVectors}
use Rattle.mode_project.proofs.table.rows_of.Given as goal

abbrev pub invariant-loop-k : goal.invariant-loop-k
invariant-loop-k g l =
    let f = g.F.Field.field.laws in
    let v = g.F.Field.value in
    AreVectors f v l.form.width (vector_at f (row_vectors (exact_rows f v l.form.rows))) (rows_in l.rows.items) l.k
