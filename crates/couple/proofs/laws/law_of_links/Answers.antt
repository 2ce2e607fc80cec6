use Rattle.couple.specs.LinkLaws.{average-intertwines, averages-sum, only-zero}
use Rattle.couple.specs.RankLaws.{full-equivalent}
use Rattle.couple.proofs.laws.law_of_links.Goals as goal

pub returns-clause-averages : goal.returns-clause-averages
returns-clause-averages g c = average-intertwines g.F.Field.field.laws

pub returns-clause-sum : goal.returns-clause-sum
returns-clause-sum g c = averages-sum g.F.Field.field.laws

pub returns-clause-none : goal.returns-clause-none
returns-clause-none g c = only-zero g.F.Field.field

pub returns-clause-equivalent : goal.returns-clause-equivalent
returns-clause-equivalent g c = full-equivalent g.F.Field.field.laws
