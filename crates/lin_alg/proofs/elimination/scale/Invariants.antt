use Rattle.lin_alg.specs.Reduced.{scaled}
use Rattle.lin_alg.specs.Rows.{vector}
use Rattle.lin_alg.proofs.WriteLemmas.{IsWritten}
use Rattle.lin_alg.proofs.elimination.scale.Given as goal

abbrev pub invariant-loop-j : goal.invariant-loop-j
invariant-loop-j g l =
    let f = g.F.Field.field in
    let v = g.F.Field.value in
    IsWritten f v (scaled f.laws l.p (vector f.laws v l.fn.row)) (vector f.laws v l.fn.row) l.row l.j
