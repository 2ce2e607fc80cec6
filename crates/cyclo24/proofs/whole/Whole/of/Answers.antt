use Rattle.cyclo24.specs.CheckedLaws.{kept128}
use Rattle.cyclo24.proofs.whole.Whole.of.Goals as goal

pub returns-clause-narrow : goal.returns-clause-narrow
returns-clause-narrow c = kept128 c.args.n c.ranges.n c.requires
