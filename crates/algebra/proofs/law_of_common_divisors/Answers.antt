use Rattle.algebra.specs.DivisorLaws.{of_factor}
use Rattle.algebra.proofs.law_of_common_divisors.Goals as goal

pub returns : goal.returns
returns c = of_factor
