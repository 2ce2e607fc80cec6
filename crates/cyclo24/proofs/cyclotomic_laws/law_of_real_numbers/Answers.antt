use Rattle.cyclo24.specs.Z24Laws.{from_real-plus, from_real-times, from_real-nought, from_real-unit, real_part-from_real, imag_part-from_real}
use Rattle.cyclo24.proofs.cyclotomic_laws.law_of_real_numbers.Goals as goal

pub returns-clause-sums : goal.returns-clause-sums
returns-clause-sums c = from_real-plus

pub returns-clause-products : goal.returns-clause-products
returns-clause-products c = from_real-times

pub returns-clause-zero : goal.returns-clause-zero
returns-clause-zero c = from_real-nought

pub returns-clause-one : goal.returns-clause-one
returns-clause-one c = from_real-unit

pub returns-clause-real : goal.returns-clause-real
returns-clause-real c = real_part-from_real

pub returns-clause-imaginary : goal.returns-clause-imaginary
returns-clause-imaginary c = imag_part-from_real
