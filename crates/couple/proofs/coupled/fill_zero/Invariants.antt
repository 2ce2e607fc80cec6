use Rattle.lin_alg.specs.Rows.{vector}
use Rattle.couple.proofs.WriteLemmas.{IsWritten}
use Rattle.couple.proofs.coupled.fill_zero.Given as goal

abbrev pub invariant-loop-j : goal.invariant-loop-j
invariant-loop-j g l =
    let f = g.F.Field.field in
    let v = g.F.Field.value in
    IsWritten f v (λ _. f.laws.nought) (vector f.laws v l.fn.row) l.row l.j
