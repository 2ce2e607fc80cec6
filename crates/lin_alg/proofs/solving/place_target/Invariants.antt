use Rattle.lin_alg.specs.Rows.{vector}
use Rattle.lin_alg.specs.Solving.{joined}
use Rattle.lin_alg.proofs.WriteLemmas.{IsWritten}
use Rattle.lin_alg.proofs.solving.place_target.Given as goal

abbrev pub invariant-loop-p : goal.invariant-loop-p
invariant-loop-p g l =
    let f = g.F.Field.field in
    let v = g.F.Field.value in
    IsWritten f v (joined l.n (λ _. f.laws.nought) (vector f.laws v l.target)) (vector f.laws v l.fn.row) l.row l.p
