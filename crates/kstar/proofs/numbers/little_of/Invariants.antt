use Rattle.space_ops.specs.Op.{vector_of}
use Rattle.kstar.specs.WaveVector.{AreEquivalent}
use Rattle.algebra.specs.RisingLists.{IsRisingListOf}
use Rattle.kstar.specs.Star.{row_in}
use Rattle.kstar.proofs.numbers.little_of.Given as goal

abbrev pub invariant-loop-r : goal.invariant-loop-r
invariant-loop-r l = IsRisingListOf l.r (λ r. AreEquivalent l.lattice (row_in l.images r) (vector_of l.row)) l.little.items
