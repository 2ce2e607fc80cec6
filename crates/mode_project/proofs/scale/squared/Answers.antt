use Rattle.lin_alg.specs.Rows.{vector}
use Rattle.mode_project.proofs.ScaleLemmas.{total-next}
use Rattle.mode_project.proofs.scale.squared.Goals as goal

pub loop-a-preserved : goal.loop-a-preserved
loop-a-preserved g c =
    let f = g.F.Field.field.laws in
    let w = vector f g.F.Field.value c.args.weights.now in
    let group = g.S.OfSpace.space.group in
    total-next f (λ a. f.times (w a) (w (group.product (group.inverse a) c.args.q))) c.loop-a.a (g.F.Field.value c.loop-a.sum) (g.F.Field.value c.in_ok-sum.sum) c.loop-a.invariant c.in_ok-sum.ensures
