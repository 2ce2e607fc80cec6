use Rattle.cyclo24.specs.CheckedLaws.{kept64}
use Rattle.cyclo24.proofs.whole.Whole.small.Goals as goal

pub returns-clause-narrow : goal.returns-clause-narrow
returns-clause-narrow c = kept64 c.args.n c.ranges.n
