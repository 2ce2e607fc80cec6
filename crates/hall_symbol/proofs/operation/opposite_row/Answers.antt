use Rattle.std.proofs.Common.{rules}
use Rattle.algebra.specs.ListLaws.{same_three}
use Rattle.hall_symbol.proofs.Passed.{passed_opposite}
use Rattle.hall_symbol.proofs.operation.opposite_row.Goals as goal

pub returns-clause-value : goal.returns-clause-value
returns-clause-value c =
    same_three _ _ _ _ _ _ (passed_opposite _ (search rules) c.requires.0) (passed_opposite _ (search rules) c.requires.1) (passed_opposite _ (search rules) c.requires.2)
