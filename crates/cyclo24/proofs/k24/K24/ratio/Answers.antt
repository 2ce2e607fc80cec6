use Rattle.cyclo24.specs.K24.{exact24}
use Rattle.cyclo24.specs.K24NumbersLaws.{ratio_value, passed_list, passed_positive}
use Rattle.cyclo24.proofs.k24.K24.ratio.Goals as goal

pub of_parts-requires : goal.of_parts-requires
of_parts-requires c = passed_positive c.args.d c.ranges.d c.requires

pub returns-clause-numbers : goal.returns-clause-numbers
returns-clause-numbers c = passed_list c.args.n c.args.d (exact24 c.of_parts.result).0 c.ranges.n c.ranges.d c.of_parts.ensures

pub returns-clause-value : goal.returns-clause-value
returns-clause-value c = ratio_value c.args.n c.args.d c.requires (exact24 c.of_parts.result) (returns-clause-numbers c)
