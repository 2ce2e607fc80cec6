use Rattle.std.proofs.Common.{length}
use Rattle.lin_alg.specs.Rows.{exact_rows}
use Rattle.lin_alg.specs.Spans.{row_vectors}
use Rattle.mode_project.specs.Modes.{vector_at}
use Rattle.mode_project.proofs.LeftCode.{vectors-as}
use Rattle.mode_project.proofs.direction.left_in.Goals as goal

pub left_of_rows-requires-clause-rows : goal.left_of_rows-requires-clause-rows
left_of_rows-requires-clause-rows g c =
    let f = g.F.Field.field.laws in
    let value = g.F.Field.value in
    let range = c.args.range.now in
    vectors-as f value range.width (vector_at f (row_vectors (exact_rows f value range.rows))) (length range.rows) c.in-Ok.rows.items c.deref.result.now c.deref.ensures.value c.in-Ok.ensures.rows
