use Rattle.std.proofs.Common.{◌≡◌, take}
use Rattle.extra_modes.specs.GatherParts.{no_numbers}
use Rattle.extra_modes.proofs.gathering.no_amounts.Given as goal

abbrev pub invariant-loop-o : goal.invariant-loop-o
invariant-loop-o l = l.rows.items ≡ no_numbers (take l.o l.orbits)
