use Rattle.std.proofs.Common.{◌≡◌}
use Rattle.cyclo24.specs.Sums.{total}
use Rattle.lin_alg.specs.Rows.{vector}
use Rattle.mode_project.proofs.scale.squared.Given as goal

abbrev pub invariant-loop-a : goal.invariant-loop-a
invariant-loop-a g l =
    let f = g.F.Field.field.laws in
    let w = vector f g.F.Field.value l.weights in
    let group = g.S.OfSpace.space.group in
    g.F.Field.value l.sum ≡ total f l.a (λ a. f.times (w a) (w (group.product (group.inverse a) l.q)))
