use Rattle.cyclo24.specs.CoefficientsLaws.{sum_formula, product_formula, negative_formula, inverse_formula}
use Rattle.cyclo24.proofs.laws.law_of_formulas.Goals as goal

pub returns-clause-sum : goal.returns-clause-sum
returns-clause-sum c = sum_formula

pub returns-clause-product : goal.returns-clause-product
returns-clause-product c = product_formula

pub returns-clause-negative : goal.returns-clause-negative
returns-clause-negative c = negative_formula

pub returns-clause-inverse : goal.returns-clause-inverse
returns-clause-inverse c = inverse_formula
