-- Products and inverses in the 24th cyclotomic field by real and imaginary parts.
--
-- real_part-times, imag_part-times: the parts of a product
-- real_part-conj, imag_part-conj: the parts of a conjugate
-- real_part-unit, imag_part-unit, no_parts: the parts of 1; only 0 has none
-- times-conj, real_part-times-conj: x times its conjugate is the sum of the squares of its parts
-- by_conjugate x: the inverse by the conjugate; inverse_is: it is the inverse
use Rattle.cyclo24.specs.FieldOn.{FieldOn}
use Rattle.cyclo24.specs.ExactField.{Exact}
use Rattle.cyclo24.specs.Listed.{is_exact}
use Rattle.cyclo24.specs.ListedLaws.{exact_laws}
use Rattle.cyclo24.specs.FourNorm.{whole4, four}
use Rattle.cyclo24.specs.FourNormLaws.{four_is}
use Rattle.cyclo24.specs.ExactZ24.{z24_laws, conj, real_part, from_real, imaginary}

abbrev pub k24 : FieldOn (Exact (is_exact 4))
k24 = exact_laws whole4 four four_is

abbrev pub E : Type 0
E = Exact (is_exact 8)

abbrev pub R : Type 0
R = Exact (is_exact 4)

-- a + i b
abbrev pub of_parts : R → R → E
of_parts a b = z24_laws.plus (from_real a) (z24_laws.times imaginary (from_real b))

-- the conjugate times the inverse of x times it
abbrev pub by_conjugate : E → E
by_conjugate x = z24_laws.times (conj x) (from_real (k24.inverse (real_part (z24_laws.times x (conj x)))))
