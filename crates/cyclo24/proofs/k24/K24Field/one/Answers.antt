use Rattle.std.proofs.Common.{arith}
use Rattle.cyclo24.specs.ExactK24.{k24_laws}
use Rattle.cyclo24.specs.K24Laws.{made_low, made_value, small_narrow, small, one24}
use Rattle.cyclo24.proofs.k24.K24Field.one.Goals as goal

pub invariant_of-result : goal.invariant_of-result
invariant_of-result c = record { narrow = small_narrow 1 (omega arith); lowest = made_low (small 1) k24_laws.unit one24 }

pub returns : goal.returns
returns c = made_value (small 1) k24_laws.unit one24 _
