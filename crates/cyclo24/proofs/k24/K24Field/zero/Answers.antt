use Rattle.std.proofs.Common.{arith}
use Rattle.cyclo24.specs.ExactK24.{k24_laws}
use Rattle.cyclo24.specs.K24Laws.{made_low, made_value, small_narrow, small, zero24}
use Rattle.cyclo24.proofs.k24.K24Field.zero.Goals as goal

pub invariant_of-result : goal.invariant_of-result
invariant_of-result c = record { narrow = small_narrow 0 (omega arith); lowest = made_low (small 0) k24_laws.nought zero24 }

pub returns : goal.returns
returns c = made_value (small 0) k24_laws.nought zero24 _
