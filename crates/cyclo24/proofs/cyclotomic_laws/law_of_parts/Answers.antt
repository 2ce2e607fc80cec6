use Rattle.cyclo24.specs.Z24Laws.{parts, imaginary-square, real_part-plus, imag_part-plus}
use Rattle.cyclo24.specs.Z24PartsLaws.{no_parts, real_part-unit, imag_part-unit}
use Rattle.cyclo24.proofs.cyclotomic_laws.law_of_parts.Goals as goal

pub returns-clause-whole : goal.returns-clause-whole
returns-clause-whole c = parts

pub returns-clause-square : goal.returns-clause-square
returns-clause-square c = imaginary-square

pub returns-clause-zero : goal.returns-clause-zero
returns-clause-zero c = no_parts

pub returns-clause-real_sums : goal.returns-clause-real_sums
returns-clause-real_sums c = real_part-plus

pub returns-clause-imag_sums : goal.returns-clause-imag_sums
returns-clause-imag_sums c = imag_part-plus

pub returns-clause-real_one : goal.returns-clause-real_one
returns-clause-real_one c = real_part-unit

pub returns-clause-imag_one : goal.returns-clause-imag_one
returns-clause-imag_one c = imag_part-unit
