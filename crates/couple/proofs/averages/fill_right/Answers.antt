use Rattle.std.proofs.Common.{arith}
use Rattle.lin_alg.specs.Rows.{vector}
use Rattle.couple.specs.Listed.{lifted}
use Rattle.couple.proofs.WriteLemmas.{written-set}
use Rattle.couple.proofs.averages.fill_right.Goals as goal

pub loop-b-preserved : goal.loop-b-preserved
loop-b-preserved g c =
    let f = g.F.Field.field in
    let v = g.F.Field.value in
    written-set f v ((lifted f.laws (g.P.Pairs.pair c.args.pairs.now)).right c.args.q c.args.j) (vector f.laws v c.args.row.now) c.loop-b.row c.loop-b.b c.right.result (omega arith) c.right.ensures c.loop-b.invariant
