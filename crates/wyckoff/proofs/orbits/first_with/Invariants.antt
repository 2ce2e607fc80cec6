use Rattle.std.specs.Prelude.{ℕ, ◌<◌}
use Rattle.wyckoff.specs.OrbitParts.{HasPlace}
use Rattle.wyckoff.proofs.orbits.first_with.Given as goal

abbrev pub invariant-loop-i : goal.invariant-loop-i
invariant-loop-i l = (k : ℕ) → k < l.i → HasPlace l.orbits k l.place → ⊥
