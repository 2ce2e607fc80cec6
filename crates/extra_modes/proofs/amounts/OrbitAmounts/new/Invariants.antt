use Rattle.std.proofs.Common.{◌≡◌, map, take}
use Rattle.extra_modes.specs.Amounts.{nothing}
use Rattle.extra_modes.proofs.amounts.OrbitAmounts.new.Given as goal

abbrev pub invariant-loop : goal.invariant-loop
invariant-loop l = l.numbers.items ≡ map (λ place. nothing) (take l.counter l.orbit.places)
