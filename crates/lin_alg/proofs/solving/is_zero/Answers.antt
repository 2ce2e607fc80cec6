use Rattle.std.proofs.Common.{◌≡◌, sym, ◌∙◌, ap, true, below_more}
use Rattle.lin_alg.specs.Rows.{vector}
use Rattle.lin_alg.proofs.VectorLemmas.{vector-at}
use Rattle.lin_alg.proofs.solving.is_zero.Goals as goal

pub returns-then-not-is_zero-clause-other : goal.returns-then-not-is_zero-clause-other
returns-then-not-is_zero-clause-other g c h =
    let f = g.F.Field.field in
    let v = g.F.Field.value in
    let at = vector-at f v c.args.row.now c.loop-x.x-index c.x-item.result c.loop-x-test.true c.x-item.is in
    let z : f.laws.is_nought (v c.x-item.result) ≡ true = ap f.laws.is_nought (sym at ∙ h c.loop-x.x-index) ∙ f.laws.is_nought-nought in
    absurd (cc (z, c.is_zero.ensures, c.if-not-is_zero.true))

pub loop-x-preserved : goal.loop-x-preserved
loop-x-preserved g c =
    let f = g.F.Field.field in
    let v = g.F.Field.value in
    let at = vector-at f v c.args.row.now c.loop-x.x-index c.x-item.result c.loop-x-test.true c.x-item.is in
    let z : f.laws.is_nought (v c.x-item.result) ≡ true = cc (c.is_zero.ensures, c.if-not-is_zero.false) in
    below_more (λ j. vector f.laws v c.args.row.now j ≡ f.laws.nought) c.loop-x.x-index c.loop-x.invariant (at ∙ f.laws.is_nought-true (v c.x-item.result) z)
