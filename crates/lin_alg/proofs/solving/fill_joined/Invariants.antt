use Rattle.lin_alg.specs.Equations.{unit_vector}
use Rattle.lin_alg.specs.Matrix.{entry}
use Rattle.lin_alg.specs.Rows.{vector}
use Rattle.lin_alg.specs.Solving.{joined}
use Rattle.lin_alg.proofs.WriteLemmas.{IsWritten}
use Rattle.lin_alg.proofs.solving.fill_joined.Given as goal

abbrev pub invariant-loop-p : goal.invariant-loop-p
invariant-loop-p g l =
    let f = g.F.Field.field in
    let v = g.F.Field.value in
    IsWritten f v (joined l.rows.rows (unit_vector f.laws l.i) (entry f.laws v l.rows l.i)) (vector f.laws v l.fn.row) l.row l.p
