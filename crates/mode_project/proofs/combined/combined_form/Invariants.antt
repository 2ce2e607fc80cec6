use Rattle.std.proofs.Common.{◌≡◌, length, vec_len}
use Rattle.lin_alg.specs.Matrix.{entry}
use Rattle.mode_project.specs.DirectionParts.{combined}
use Rattle.mode_project.specs.Parts.{rows_in, row_in, HoldsSpan}
use Rattle.mode_project.proofs.combined.combined_form.Given as goal

abbrev pub invariant-loop-n : goal.invariant-loop-n
invariant-loop-n g l =
    let f = g.F.Field.field.laws in
    let v = g.F.Field.value in
    record {
      held : HoldsSpan f v l.size (combined f (length l.rows) (entry f v l.x) (row_in f v (rows_in l.rows))) l.n l.form;
      room : vec_len l.row ≡ l.size;
    }
