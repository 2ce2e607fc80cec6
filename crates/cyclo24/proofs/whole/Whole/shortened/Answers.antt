use Rattle.std.proofs.Common.{ℤ, ap}
use Rattle.cyclo24.specs.declared.small.Small.{Small}
use Rattle.cyclo24.specs.SmallLaws.{shortened_fits, shortened_is}
use Rattle.cyclo24.proofs.whole.Whole.shortened.Goals as goal

pub overflow_cast-result : goal.overflow_cast-result
overflow_cast-result c = shortened_fits c.args.self.n c.requires

pub returns : goal.returns
returns c = let over : ℤ → Small = λ z. record { n = z } in ap over (shortened_is c.args.self.n c.requires)
