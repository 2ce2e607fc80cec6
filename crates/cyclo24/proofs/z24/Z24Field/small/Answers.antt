use Rattle.cyclo24.specs.SmallNumbersLaws.{byte_passed, whole_narrow8, whole_low8, whole_value8}
use Rattle.cyclo24.proofs.z24.Z24Field.small.Goals as goal

pub invariant_of-result : goal.invariant_of-result
invariant_of-result c =
    record { narrow = whole_narrow8 c.byte.result c.byte.ensures.narrow; lowest = whole_low8 c.byte.result c.args.n (byte_passed c.byte.result c.args.n c.ranges.n c.byte.ensures.value) }

pub returns : goal.returns
returns c = whole_value8 c.byte.result c.args.n (byte_passed c.byte.result c.args.n c.ranges.n c.byte.ensures.value) _
