use Rattle.std.proofs.Common.{◌≡◌, ◌+◌}
use Rattle.cyclo24.specs.Numerals.{of_whole}
use Rattle.cyclo24.specs.Sums.{total}
use Rattle.lin_alg.specs.Rows.{vector}
use Rattle.mode_project.proofs.image.turned_number.Given as goal

abbrev pub invariant-loop-b : goal.invariant-loop-b
invariant-loop-b g l =
    let f = g.F.Field.field.laws in
    g.F.Field.value l.sum ≡ total f l.b (λ b. f.times (of_whole f (g.S.OfSpace.space.turn l.q l.a b)) (vector f g.F.Field.value l.row (l.first + b)))
