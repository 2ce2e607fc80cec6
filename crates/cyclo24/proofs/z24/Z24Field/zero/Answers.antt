use Rattle.std.proofs.Common.{arith}
use Rattle.cyclo24.specs.ExactZ24.{z24_laws}
use Rattle.cyclo24.specs.Z24Calls.{small}
use Rattle.cyclo24.specs.Z24CallsLaws.{made_low8, made_value8, small_narrow, zero_z24}
use Rattle.cyclo24.proofs.z24.Z24Field.zero.Goals as goal

pub invariant_of-result : goal.invariant_of-result
invariant_of-result c = record { narrow = small_narrow 0 (omega arith); lowest = made_low8 (small 0) z24_laws.nought zero_z24 }

pub returns : goal.returns
returns c = made_value8 (small 0) z24_laws.nought zero_z24 _
