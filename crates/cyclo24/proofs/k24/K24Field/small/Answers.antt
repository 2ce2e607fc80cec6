use Rattle.cyclo24.specs.K24NumbersLaws.{whole_narrow, one_narrow, whole_low, whole_value}
use Rattle.cyclo24.specs.SmallNumbersLaws.{byte_passed}
use Rattle.cyclo24.proofs.k24.K24Field.small.Goals as goal

pub invariant_of-result : goal.invariant_of-result
invariant_of-result c =
    record { narrow = whole_narrow c.byte.result _ c.byte.ensures.narrow one_narrow; lowest = whole_low c.byte.result c.args.n (byte_passed c.byte.result c.args.n c.ranges.n c.byte.ensures.value) }

pub returns : goal.returns
returns c = whole_value c.byte.result c.args.n (byte_passed c.byte.result c.args.n c.ranges.n c.byte.ensures.value) _
