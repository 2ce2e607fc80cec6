use Rattle.cyclo24.specs.CoefficientsLaws.{coefficients_z24}
use Rattle.cyclo24.proofs.cyclotomic_laws.law_of_cyclotomic_coefficients.Goals as goal

pub returns : goal.returns
returns c = coefficients_z24
