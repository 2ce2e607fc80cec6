use Rattle.std.proofs.Common.{ℕ, ◌<◌}
use Rattle.kstar.specs.WaveVector.{AreEquivalent}
use Rattle.algebra.specs.RisingLists.{IsRisingListOf}
use Rattle.kstar.specs.Star.{row_in}
use Rattle.kstar.proofs.numbers.firsts_of.Given as goal

abbrev pub invariant-loop-r : goal.invariant-loop-r
invariant-loop-r l = IsRisingListOf l.r (λ r. (s : ℕ) → s < r → AreEquivalent l.lattice (row_in l.images s) (row_in l.images r) → ⊥) l.firsts.items
