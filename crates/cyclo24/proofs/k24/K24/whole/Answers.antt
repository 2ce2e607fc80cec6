use Rattle.cyclo24.specs.K24NumbersLaws.{whole_narrow, one_narrow, whole_low, whole_value, passed_whole}
use Rattle.cyclo24.proofs.k24.K24.whole.Goals as goal

pub invariant_of-result : goal.invariant_of-result
invariant_of-result c =
    record { narrow = whole_narrow c.of.result _ c.of.ensures.narrow one_narrow; lowest = whole_low c.of.result c.args.n (passed_whole c.of.result c.args.n c.ranges.n c.of.ensures.value) }

pub returns-clause-value : goal.returns-clause-value
returns-clause-value c = whole_value c.of.result c.args.n (passed_whole c.of.result c.args.n c.ranges.n c.of.ensures.value) _
