use Rattle.cyclo24.specs.Z24RootsLaws.{times-power, power-8, power-12, power-6, from_real-r2, from_real-r3, from_real-r6}
use Rattle.cyclo24.specs.CoefficientsLaws.{conj-power}
use Rattle.cyclo24.proofs.cyclotomic_laws.law_of_powers.Goals as goal

pub returns-clause-products : goal.returns-clause-products
returns-clause-products c = times-power

pub returns-clause-eighth : goal.returns-clause-eighth
returns-clause-eighth c = power-8

pub returns-clause-twelfth : goal.returns-clause-twelfth
returns-clause-twelfth c = power-12

pub returns-clause-sixth : goal.returns-clause-sixth
returns-clause-sixth c = power-6

pub returns-clause-two : goal.returns-clause-two
returns-clause-two c = from_real-r2

pub returns-clause-three : goal.returns-clause-three
returns-clause-three c = from_real-r3

pub returns-clause-six : goal.returns-clause-six
returns-clause-six c = from_real-r6

pub returns-clause-conjugates : goal.returns-clause-conjugates
returns-clause-conjugates c = conj-power
