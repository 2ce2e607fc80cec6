use Rattle.std.proofs.Common.{refl, arith}
use Rattle.lin_alg.specs.Rows.{vector}
use Rattle.couple.proofs.WriteLemmas.{written-start, written-set, written-all}
use Rattle.couple.proofs.coupled.fill_zero.Goals as goal

pub loop-j-init : goal.loop-j-init
loop-j-init g c = written-start g.F.Field.field g.F.Field.value (λ _. g.F.Field.field.laws.nought) c.args.row.now

pub loop-j-preserved : goal.loop-j-preserved
loop-j-preserved g c =
    let f = g.F.Field.field in
    let v = g.F.Field.value in
    written-set f v (λ _. f.laws.nought) (vector f.laws v c.args.row.now) c.loop-j.row c.loop-j.j c.zero.result (omega arith) c.zero.ensures c.loop-j.invariant

pub returns : goal.returns
returns g c =
    let f = g.F.Field.field in
    let v = g.F.Field.value in
    written-all f v (λ _. f.laws.nought) (vector f.laws v c.args.row.now) c.loop-j.row c.loop-j.j (omega arith) (λ k l. refl) c.loop-j.invariant
