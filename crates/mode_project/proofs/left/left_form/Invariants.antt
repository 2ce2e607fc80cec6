use Rattle.std.proofs.Common.{◌≡◌, ◌*◌, length, vec_len}
use Rattle.mode_project.specs.AtomSpace.{size_of}
use Rattle.mode_project.specs.Parts.{rows_in, row_in, HoldsSpan}
use Rattle.mode_project.specs.Wide.{left_row}
use Rattle.mode_project.proofs.left.left_form.Given as goal

abbrev pub invariant-loop-n : goal.invariant-loop-n
invariant-loop-n g l =
    let f = g.F.Field.field.laws in
    let v = g.F.Field.value in
    let s = g.S.OfSpace.space in
    record {
      held : HoldsSpan f v (length l.rows) (left_row f s l.stab (row_in f v (rows_in l.rows))) (l.n * size_of s) l.form;
      room : vec_len l.row ≡ length l.rows;
    }
