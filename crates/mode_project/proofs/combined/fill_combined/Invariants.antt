use Rattle.std.proofs.Common.{length}
use Rattle.lin_alg.specs.Matrix.{entry}
use Rattle.lin_alg.specs.Rows.{vector}
use Rattle.mode_project.specs.DirectionParts.{combined}
use Rattle.mode_project.specs.Parts.{rows_in, row_in}
use Rattle.mode_project.proofs.WriteLemmas.{IsWritten}
use Rattle.mode_project.proofs.combined.fill_combined.Given as goal

abbrev pub invariant-loop-i : goal.invariant-loop-i
invariant-loop-i g l =
    let f = g.F.Field.field in
    let v = g.F.Field.value in
    IsWritten f v (combined f.laws (length l.rows) (entry f.laws v l.x) (row_in f.laws v (rows_in l.rows)) l.n) (vector f.laws v l.fn.row) l.row l.i
