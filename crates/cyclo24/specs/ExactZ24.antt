-- The 24th cyclotomic field: exact values (c0 + c1 z + .. + c7 z^7) / d with z = exp(2 pi i / 24), as lists of c0 to c7 and d.
--
-- z24_laws: the field
-- conj x: the conjugate; real_part x, imag_part x: the parts, in Q(sqrt 2, sqrt 3); from_real a: a real number
-- power n: z to the power n; imaginary: the imaginary unit
-- is_wide_sum_z24, is_wide_difference_z24, is_wide_product_z24, is_wide_inverse_z24: some number of the formula is wide
-- is_wide_conj, is_wide_real_part, is_wide_imag_part, is_wide_from_real: the same
-- z24: the field with its order and its wide operations
use Rattle.std.specs.Prelude.{ℕ, zero, suc, Bool, ◌||◌}
use Rattle.cyclo24.specs.FieldOn.{FieldOn}
use Rattle.cyclo24.specs.ExactField.{Exact, ExactField}
use Rattle.algebra.specs.Whole.{whole}
use Rattle.cyclo24.specs.Listed.{is_exact, exact_cmp}
use Rattle.cyclo24.specs.ListedLaws.{exact_laws, exact_ones, exact_cmp_total, exact_cmp-Equal}
use Rattle.cyclo24.specs.ExactMapsLaws.{exact_map, exact_member}
use Rattle.cyclo24.specs.FourNorm.{whole4, four}
use Rattle.cyclo24.specs.FourNormLaws.{four_is}
use Rattle.cyclo24.specs.EightParts.{conj8, re8, im8, real8, z8, i8}
use Rattle.cyclo24.specs.EightNorm.{whole8, eight}
use Rattle.cyclo24.specs.EightNormLaws.{eight_is, above0, above3}
use Rattle.cyclo24.specs.Checked.{any_wide}
use Rattle.cyclo24.specs.ExactK24.{Exact24, k24_laws, is_wide_inverse24}
use Rattle.cyclo24.specs.Written4.{fraction_of}
use Rattle.cyclo24.specs.Written8.{fraction8_of, sum, negated}
use Rattle.cyclo24.specs.Written8Parts.{imaginary as imaginary_of}
use Rattle.cyclo24.specs.Written8Products.{product}
use Rattle.cyclo24.specs.Written8Parts.{conjugate, real, from_four}

abbrev pub ExactZ24 : Type 0
ExactZ24 = Exact (is_exact 8)

-- the field of eight numerators over a denominator
abbrev pub z24_laws : FieldOn ExactZ24
z24_laws = exact_laws whole8 eight eight_is

-- the conjugate
unfoldable pub conj : ExactZ24 → ExactZ24
conj x = exact_map whole8 eight eight_is whole8 eight eight_is (conj8 whole) 1 above0 x

-- the real part
unfoldable pub real_part : ExactZ24 → Exact24
real_part x = exact_map whole8 eight eight_is whole4 four four_is (re8 whole) 4 above3 x

-- the imaginary part
unfoldable pub imag_part : ExactZ24 → Exact24
imag_part x = exact_map whole8 eight eight_is whole4 four four_is (im8 whole) 4 above3 x

-- a real number
unfoldable pub from_real : Exact24 → ExactZ24
from_real a = exact_map whole4 four four_is whole8 eight eight_is (real8 whole) 1 above0 a

-- the root z
unfoldable pub root_of_unity : ExactZ24
root_of_unity = exact_member whole8 eight eight_is (z8 whole)

-- z to the power n
abbrev pub power : ℕ → ExactZ24
power zero = z24_laws.unit
power (suc n) = z24_laws.times root_of_unity (power n)

-- the imaginary unit
unfoldable pub imaginary : ExactZ24
imaginary = exact_member whole8 eight eight_is (i8 whole)

-- a written number of x + y is wide
abbrev pub is_wide_sum_z24 : ExactZ24 → ExactZ24 → Bool
is_wide_sum_z24 x y = any_wide (sum (fraction8_of x.0) (fraction8_of y.0)).written

-- a written number of x - y is wide
abbrev pub is_wide_difference_z24 : ExactZ24 → ExactZ24 → Bool
is_wide_difference_z24 x y = any_wide (sum (fraction8_of x.0) (negated (fraction8_of y.0))).written

-- a written number of x y is wide
abbrev pub is_wide_product_z24 : ExactZ24 → ExactZ24 → Bool
is_wide_product_z24 x y = any_wide (product (fraction8_of x.0) (fraction8_of y.0)).written

-- a written number of the conjugate is wide
abbrev pub is_wide_conj : ExactZ24 → Bool
is_wide_conj x = any_wide (conjugate (fraction8_of x.0)).written

-- a written number of the real part is wide
abbrev pub is_wide_real_part : ExactZ24 → Bool
is_wide_real_part x = any_wide (real (fraction8_of x.0)).written

-- a written number of the imaginary part is wide
abbrev pub is_wide_imag_part : ExactZ24 → Bool
is_wide_imag_part x = any_wide (imaginary_of (fraction8_of x.0)).written

-- a written number of a real number in powers of z is wide
abbrev pub is_wide_from_real : Exact24 → Bool
is_wide_from_real a = any_wide (from_four (fraction_of a.0)).written

-- a written number of y b is wide, for the conjugate y of x, the inverse b of the real part of n, and n = x y
abbrev pub is_wide_by : ExactZ24 → ExactZ24 → ExactZ24 → Bool
is_wide_by x y n =
    let b = k24_laws.inverse (real_part n) in
    is_wide_product_z24 x y || (is_wide_real_part n || (is_wide_inverse24 (real_part n) || (is_wide_from_real b || is_wide_product_z24 y (from_real b))))

-- a written number of 1 / x, the conjugate y times the inverse of the real part of x y, is wide
abbrev pub is_wide_inverse_z24 : ExactZ24 → Bool
is_wide_inverse_z24 x = is_wide_conj x || is_wide_by x (conj x) (z24_laws.times x (conj x))

-- the field with its order and its wide operations
abbrev pub z24 : ExactField
z24 = record {
  valid = is_exact 8;
  laws = z24_laws;
  characteristic_zero = exact_ones whole8 eight eight_is;
  is_wide_sum = is_wide_sum_z24;
  is_wide_difference = is_wide_difference_z24;
  is_wide_product = is_wide_product_z24;
  is_wide_inverse = is_wide_inverse_z24;
  cmp = exact_cmp 8;
  cmp_total = exact_cmp_total 8;
  cmp-Equal = exact_cmp-Equal 8;
}
