use Rattle.std.proofs.Common.{◌≡◌, true}
use Rattle.algebra.specs.RisingListLaws.{list-unique}
use Rattle.algebra.proofs.law_of_rising_lists.Goals as goal

pub returns : goal.returns
returns c n test = list-unique n (λ r. test r ≡ true)
