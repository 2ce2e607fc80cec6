use Rattle.std.proofs.Common.{ℕ, ◌<◌}
use Rattle.super_group.specs.FirstAxes.{IsMultipleOf}
use Rattle.super_group.proofs.denominators.least_multiple.Given as goal

abbrev pub invariant-loop-m : goal.invariant-loop-m
invariant-loop-m l = (k : ℕ) → 0 < k → k < l.m → IsMultipleOf l.firsts l.first l.dens k → ⊥
