use Rattle.std.proofs.Common.{◌≡◌, ℕ, ◌<◌, ◌%◌}
use Rattle.super_group.specs.Multipliers.{denominator}
use Rattle.super_group.proofs.denominators.are_denominators.Given as goal

abbrev pub invariant-loop-den : goal.invariant-loop-den
invariant-loop-den l = (n : ℕ) → n < l.den-index → (j : ℕ) → j < 3 → (0 < denominator l.dens n j) × (12 % denominator l.dens n j ≡ 0)
