use Rattle.cyclo24.specs.Z24Laws.{conj-conj, conj-plus, conj-times, conj-unit, conj-from_real}
use Rattle.cyclo24.proofs.cyclotomic_laws.law_of_conjugation.Goals as goal

pub returns-clause-involution : goal.returns-clause-involution
returns-clause-involution c = conj-conj

pub returns-clause-sums : goal.returns-clause-sums
returns-clause-sums c = conj-plus

pub returns-clause-products : goal.returns-clause-products
returns-clause-products c = conj-times

pub returns-clause-one : goal.returns-clause-one
returns-clause-one c = conj-unit

pub returns-clause-reals : goal.returns-clause-reals
returns-clause-reals c = conj-from_real
