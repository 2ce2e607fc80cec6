use Rattle.cyclo24.specs.SumLaws.{renumbered}
use Rattle.cyclo24.proofs.laws.law_of_renumbering.Goals as goal

pub returns : goal.returns
returns g c n p r h k = renumbered g.F.Field.field.laws n p r h k
