use Rattle.std.proofs.Common.{lit≤}
use Rattle.cyclo24.specs.ExactK24.{k24_laws}
use Rattle.cyclo24.specs.K24Laws.{made_low, made_value, small, zero24}
use Rattle.cyclo24.proofs.short_rational.ShortRationalField.zero.Goals as goal

pub invariant_of-result : goal.invariant_of-result
invariant_of-result c = record { packed = record { d = lit≤ tt; a0 = lit≤ tt; a1 = lit≤ tt; a2 = lit≤ tt; a3 = lit≤ tt }; lowest = made_low (small 0) k24_laws.nought zero24 }

pub returns : goal.returns
returns c = made_value (small 0) k24_laws.nought zero24 _
