use Rattle.cyclo24.specs.SmallNumbersLaws.{byte_narrow}
use Rattle.cyclo24.proofs.whole.Whole.byte.Goals as goal

pub returns-clause-narrow : goal.returns-clause-narrow
returns-clause-narrow c = byte_narrow c.args.n c.ranges.n
