use Rattle.std.proofs.Common.{◌≡◌, ℕ, ◌<◌, ◌%◌}
use Rattle.super_group.specs.FirstAxes.{axis_at}
use Rattle.super_group.specs.Multipliers.{denominator}
use Rattle.super_group.proofs.denominators.is_multiple.Given as goal

abbrev pub invariant-loop-den : goal.invariant-loop-den
invariant-loop-den l = (n : ℕ) → n < l.den-index → (j : ℕ) → j < 3 → axis_at l.firsts j ≡ l.first → l.m % denominator l.dens n j ≡ 0
