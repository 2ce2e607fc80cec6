use Rattle.cyclo24.specs.CoefficientsLaws.{sum_formula8, product_formula8, negative_formula8}
use Rattle.std.proofs.Common.{sym}
use Rattle.cyclo24.specs.Z24PartsLaws.{inverse_is}
use Rattle.cyclo24.proofs.cyclotomic_laws.law_of_cyclotomic_formulas.Goals as goal

pub returns-clause-sum : goal.returns-clause-sum
returns-clause-sum c = sum_formula8

pub returns-clause-product : goal.returns-clause-product
returns-clause-product c = product_formula8

pub returns-clause-negative : goal.returns-clause-negative
returns-clause-negative c = negative_formula8

pub returns-clause-inverse : goal.returns-clause-inverse
returns-clause-inverse c x h = sym (inverse_is x h)
