use Rattle.lin_alg.specs.Rows.{vector}
use Rattle.lin_alg.proofs.VectorLemmas.{IsTaken}
use Rattle.lin_alg.proofs.elimination.take_multiple.Given as goal

abbrev pub invariant-loop-j : goal.invariant-loop-j
invariant-loop-j g l =
    let f = g.F.Field.field in
    let v = g.F.Field.value in
    IsTaken f v (vector f.laws v l.fn.row) (v l.c) (vector f.laws v l.b) l.row l.j
