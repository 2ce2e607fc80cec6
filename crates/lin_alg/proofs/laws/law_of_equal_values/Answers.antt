use Rattle.lin_alg.specs.RowLaws.{equality-told}
use Rattle.lin_alg.proofs.laws.law_of_equal_values.Goals as goal

pub returns : goal.returns
returns g c = equality-told g.F.Field.field g.F.Field.value g.F.PartialEq.eq g.F.Ord.cmp g.met.F.Ord.matches_eq g.met.F.Field.value_cmp
