use Rattle.std.proofs.Common.{◌≡◌, below_more}
use Rattle.lin_alg.specs.Rows.{vector}
use Rattle.real_form.proofs.SparseLemmas.{zero-at}
use Rattle.real_form.proofs.places.first_place.Goals as goal

pub loop-i-preserved : goal.loop-i-preserved
loop-i-preserved g c =
    let f = g.F.Field.field in
    let v = g.F.Field.value in
    below_more (λ k. vector f.laws v c.args.w.now k ≡ f.laws.nought) c.loop-i.i c.loop-i.invariant
    (zero-at f v c.args.w.now c.loop-i.i c.index-w-i.result c.is_zero.result c.loop-i-test.true c.index-w-i.is c.is_zero.ensures c.if-not-is_zero.false)
