use Rattle.cyclo24.specs.Z24PartsLaws.{real_part-times, imag_part-times, real_part-conj, imag_part-conj, real_part-times-conj, times-conj}
use Rattle.cyclo24.proofs.cyclotomic_laws.law_of_products_of_parts.Goals as goal

pub returns-clause-real_products : goal.returns-clause-real_products
returns-clause-real_products c = real_part-times

pub returns-clause-imag_products : goal.returns-clause-imag_products
returns-clause-imag_products c = imag_part-times

pub returns-clause-real_conjugates : goal.returns-clause-real_conjugates
returns-clause-real_conjugates c = real_part-conj

pub returns-clause-imag_conjugates : goal.returns-clause-imag_conjugates
returns-clause-imag_conjugates c = imag_part-conj

pub returns-clause-norm : goal.returns-clause-norm
returns-clause-norm c = real_part-times-conj

pub returns-clause-real_norm : goal.returns-clause-real_norm
returns-clause-real_norm c = times-conj
