use Rattle.cyclo24.specs.Numerals.{of_whole}
use Rattle.lin_alg.specs.Rows.{vector}
use Rattle.mode_project.specs.Parts.{more}
use Rattle.mode_project.proofs.WriteLemmas.{IsWritten}
use Rattle.mode_project.proofs.rows.add_row.Given as goal

abbrev pub invariant-loop-r : goal.invariant-loop-r
invariant-loop-r g l =
    let f = g.F.Field.field in
    let v = g.F.Field.value in
    let start = vector f.laws v l.fn.into in
    IsWritten f v (more f.laws start (of_whole f.laws l.n) (vector f.laws v l.row)) start l.into l.r
