use Rattle.space_ops.specs.ListUniqueLaws.{list-unique}
use Rattle.space_ops.proofs.laws.law_of_lists.Goals as goal

pub returns : goal.returns
returns c = list-unique
