use Rattle.lin_alg.specs.Rows.{vector}
use Rattle.class_list.proofs.RowLemmas.{IsWritten}
use Rattle.class_list.proofs.image.add_multiple.Given as goal

abbrev pub invariant-loop-j : goal.invariant-loop-j
invariant-loop-j g l =
    let f = g.F.Field.field in
    let v = g.F.Field.value in
    IsWritten f v (λ j. f.laws.plus (vector f.laws v l.fn.row j) (f.laws.times (v l.c) (vector f.laws v l.b j))) (vector f.laws v l.fn.row) l.row l.j
