-- The exact values of the field Q(sqrt 2, sqrt 3): lists a0, a1, a2, a3, d that stand for (a0 + a1 r2 + a2 r3 + a3 r6) / d.
--
-- k24_laws: the field of these lists
-- is_wide_sum24, is_wide_difference24, is_wide_product24, is_wide_inverse24: some number of the formula is wide
-- k24: the field with its order and its wide operations
use Rattle.std.specs.Prelude.{pos, negsuc, Bool}
use Rattle.cyclo24.specs.FieldOn.{FieldOn}
use Rattle.cyclo24.specs.ExactField.{Exact, ExactField}
use Rattle.cyclo24.specs.Listed.{is_exact, exact_cmp}
use Rattle.cyclo24.specs.ListedLaws.{exact_laws, exact_ones, exact_cmp_total, exact_cmp-Equal}
use Rattle.cyclo24.specs.FourNorm.{whole4, four}
use Rattle.cyclo24.specs.FourNormLaws.{four_is}
use Rattle.cyclo24.specs.Checked.{any_wide}
use Rattle.cyclo24.specs.Written4.{fraction_of, sum, product}
use Rattle.cyclo24.specs.Written4Inverse.{inverse}

abbrev pub Exact24 : Type 0
Exact24 = Exact (is_exact 4)

-- the field of four numerators over a denominator
abbrev pub k24_laws : FieldOn Exact24
k24_laws = exact_laws whole4 four four_is

-- a written number of x + y is wide
abbrev pub is_wide_sum24 : Exact24 → Exact24 → Bool
is_wide_sum24 x y = any_wide (sum (record { n = pos 1 }) (fraction_of x.0) (fraction_of y.0)).written

-- a written number of x - y is wide
abbrev pub is_wide_difference24 : Exact24 → Exact24 → Bool
is_wide_difference24 x y = any_wide (sum (record { n = negsuc 0 }) (fraction_of x.0) (fraction_of y.0)).written

-- a written number of x y is wide
abbrev pub is_wide_product24 : Exact24 → Exact24 → Bool
is_wide_product24 x y = any_wide (product (fraction_of x.0) (fraction_of y.0)).written

-- a written number of 1 / x is wide
abbrev pub is_wide_inverse24 : Exact24 → Bool
is_wide_inverse24 x = any_wide (inverse (fraction_of x.0)).written

-- the field with its order and its wide operations
abbrev pub k24 : ExactField
k24 = record {
  valid = is_exact 4;
  laws = k24_laws;
  characteristic_zero = exact_ones whole4 four four_is;
  is_wide_sum = is_wide_sum24;
  is_wide_difference = is_wide_difference24;
  is_wide_product = is_wide_product24;
  is_wide_inverse = is_wide_inverse24;
  cmp = exact_cmp 4;
  cmp_total = exact_cmp_total 4;
  cmp-Equal = exact_cmp-Equal 4;
}
