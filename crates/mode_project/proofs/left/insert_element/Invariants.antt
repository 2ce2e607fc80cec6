use Rattle.std.proofs.Common.{◌+◌, ◌*◌, length}
use Rattle.mode_project.specs.AtomSpace.{size_of}
use Rattle.mode_project.specs.Parts.{rows_in, row_in, HoldsSpan}
use Rattle.mode_project.specs.Wide.{left_row}
use Rattle.mode_project.proofs.left.insert_element.Given as goal

abbrev pub invariant-loop-i : goal.invariant-loop-i
invariant-loop-i g l =
    let f = g.F.Field.field.laws in
    let v = g.F.Field.value in
    let s = g.S.OfSpace.space in
    HoldsSpan f v (length l.rows) (left_row f s l.stab (row_in f v (rows_in l.rows))) (l.n * size_of s + l.i) l.form
