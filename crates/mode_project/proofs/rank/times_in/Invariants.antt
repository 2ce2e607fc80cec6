use Rattle.std.proofs.Common.{◌≡◌}
use Rattle.cyclo24.specs.Sums.{total}
use Rattle.mode_project.proofs.rank.times_in.Given as goal

abbrev pub invariant-loop-r : goal.invariant-loop-r
invariant-loop-r g l = g.F.Field.value l.sum ≡ total g.F.Field.field.laws l.r (λ _. g.F.Field.value l.scale)
