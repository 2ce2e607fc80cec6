use Rattle.algebra.specs.SumLaws.{renumbered}
use Rattle.algebra.proofs.law_of_sums.Goals as goal

pub returns : goal.returns
returns g c = renumbered
