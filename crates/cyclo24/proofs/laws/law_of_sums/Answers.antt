use Rattle.cyclo24.specs.TotalLaws.{total-plus, total-times, total-swap}
use Rattle.cyclo24.specs.SumLaws.{all-nought, total-append, one-term}
use Rattle.cyclo24.proofs.laws.law_of_sums.Goals as goal

pub returns-clause-zeros : goal.returns-clause-zeros
returns-clause-zeros g c = all-nought g.F.Field.field.laws

pub returns-clause-sums : goal.returns-clause-sums
returns-clause-sums g c = total-plus g.F.Field.field.laws

pub returns-clause-products : goal.returns-clause-products
returns-clause-products g c = total-times g.F.Field.field.laws

pub returns-clause-exchange : goal.returns-clause-exchange
returns-clause-exchange g c = total-swap g.F.Field.field.laws

pub returns-clause-pieces : goal.returns-clause-pieces
returns-clause-pieces g c = total-append g.F.Field.field.laws

pub returns-clause-one_term : goal.returns-clause-one_term
returns-clause-one_term g c = one-term g.F.Field.field.laws
