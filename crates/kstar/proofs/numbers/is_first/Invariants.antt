use Rattle.std.proofs.Common.{ℕ, ◌<◌}
use Rattle.kstar.specs.WaveVector.{AreEquivalent}
use Rattle.kstar.specs.Star.{row_in}
use Rattle.kstar.proofs.numbers.is_first.Given as goal

abbrev pub invariant-loop-s : goal.invariant-loop-s
invariant-loop-s l = (s : ℕ) → s < l.s → AreEquivalent l.lattice (row_in l.images s) (row_in l.images l.r) → ⊥
