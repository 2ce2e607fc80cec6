use Rattle.lin_alg.specs.Rows.{vector}
use Rattle.couple.specs.Listed.{lifted}
use Rattle.couple.proofs.WriteLemmas.{IsWritten}
use Rattle.couple.proofs.averages.fill_right.Given as goal

abbrev pub invariant-loop-b : goal.invariant-loop-b
invariant-loop-b g l =
    let f = g.F.Field.field in
    let v = g.F.Field.value in
    IsWritten f v ((lifted f.laws (g.P.Pairs.pair l.pairs)).right l.q l.j) (vector f.laws v l.fn.row) l.row l.b
