use Rattle.cyclo24.specs.CoefficientsLaws.{coefficients24}
use Rattle.cyclo24.proofs.laws.law_of_coefficients.Goals as goal

pub returns : goal.returns
returns c = coefficients24
