use Rattle.cyclo24.specs.NumeralLaws.{of-plus, of-times}
use Rattle.cyclo24.proofs.laws.law_of_whole_numbers.Goals as goal

pub returns-clause-sum : goal.returns-clause-sum
returns-clause-sum g c x y = of-plus g.F.Field.field.laws x y

pub returns-clause-product : goal.returns-clause-product
returns-clause-product g c x y = of-times g.F.Field.field.laws x y
