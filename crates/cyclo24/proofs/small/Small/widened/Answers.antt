use Rattle.std.proofs.Common.{lit≤, ◌^◌}
use Rattle.cyclo24.specs.SmallLaws.{below63}
use Rattle.cyclo24.specs.CheckedLaws.{kept64}
use Rattle.cyclo24.proofs.small.Small.widened.Goals as goal

pub returns-clause-narrow : goal.returns-clause-narrow
returns-clause-narrow c = kept64 c.args.self.n (below63 c.args.self.n (2 ^ 62) c.requires (lit≤ tt))
