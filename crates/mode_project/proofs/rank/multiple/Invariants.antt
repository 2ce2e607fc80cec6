use Rattle.std.proofs.Common.{◌≡◌}
use Rattle.cyclo24.specs.Sums.{total}
use Rattle.mode_project.proofs.rank.multiple.Given as goal

abbrev pub invariant-loop : goal.invariant-loop
invariant-loop g l = g.F.Field.value l.sum ≡ total g.F.Field.field.laws l.counter (λ _. g.F.Field.value l.x)
