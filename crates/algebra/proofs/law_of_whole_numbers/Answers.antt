use Rattle.algebra.specs.WholeLaws.{whole_ring}
use Rattle.algebra.proofs.law_of_whole_numbers.Goals as goal

pub returns : goal.returns
returns c = whole_ring
