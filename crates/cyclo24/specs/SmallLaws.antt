-- Products and sums of numbers that 64 bits hold.
--
-- times_most, factor_most, sum_most: how large they are
-- times_fits, factor_fits: 64 bits hold them
-- product_kept: a product that 64 bits hold, as the program forms it
-- short_between, tiny_between: a bound by two comparisons
-- shortened_fits, shortened_is: a number of 128 bits in 64
-- gcd_one: 1 has no divisor but 1
-- either_left, either_right: a number made of the bits of either is 0 only where both are
-- common_is, common_most, common_fits, common_kept: the same of a greatest common divisor
use Rattle.std.proofs.Common.{◌≡◌, ℕ, true, ◌+◌, ◌*◌, ◌^◌, ◌<◌, ◌≤◌, arith, ℤ, pos, ◌+ℤ◌, ◌*ℤ◌, lit≤, mul-le-mul, le_refl, subst, sym, ap, ◌∙◌, to_z, of_z}
use Rattle.std.specs.Prelude.{FitsSigned, negsuc, ◌<ℤ◌}
use Rattle.std.proofs.lemmas.Int.{ints, fits_signed_from_abs, unsigned_abs-mul, to_z-of_z, to_z_pos, of_z-to_z}
use Rattle.std.proofs.lemmas.Nat.{or_lt, le_or_l, le_or_r}
use Rattle.std.specs.Int.Bits.{bit_or}
use Rattle.std.specs.Int.{w64, w128}
use Rattle.std.specs.Int.RustNames.{unsigned_abs}
use Rattle.std.specs.Ordering.{int_eq}
use Rattle.std.specs.Cmp.{signed_Decides}
use Rattle.std.proofs.Math.Nat.{eq-one_of_dvd-one}
use Rattle.cyclo24.specs.Gcd.{gcd}
use Rattle.cyclo24.specs.GcdLaws.{gcd_is, gcd_below}

pub times_most : (x y : ℤ) → unsigned_abs x ≤ 2 ^ 28 → unsigned_abs y ≤ 2 ^ 28 → unsigned_abs (x *ℤ y) ≤ 2 ^ 56
times_most x y h k =
    let m : unsigned_abs x * unsigned_abs y ≤ 2 ^ 28 * 2 ^ 28 = mul-le-mul h k in
    omega (arith, m, unsigned_abs-mul x y)

-- the product with a factor of at most b
pub factor_most : (b : ℕ) (f z : ℤ) → unsigned_abs f ≤ b → unsigned_abs (f *ℤ z) ≤ b * unsigned_abs z
factor_most b f z e =
    let m : unsigned_abs f * unsigned_abs z ≤ b * unsigned_abs z = mul-le-mul e (le_refl (unsigned_abs z)) in
    omega (arith, m, unsigned_abs-mul f z)

pub sum_most : (x y : ℤ) → unsigned_abs (x +ℤ y) ≤ unsigned_abs x + unsigned_abs y
sum_most x y = omega (arith, ints)

below_fits : (z : ℤ) → unsigned_abs z < 2 ^ 63 → FitsSigned w64 z
below_fits z h = fits_signed_from_abs w64 z h

pub times_fits : (x y : ℤ) → unsigned_abs x ≤ 2 ^ 28 → unsigned_abs y ≤ 2 ^ 28 → FitsSigned w64 (x *ℤ y)
times_fits x y h k = below_fits (x *ℤ y) (omega (arith, times_most x y h k))

pub factor_fits : (b : ℕ) (f z : ℤ) → unsigned_abs f ≤ b → b * unsigned_abs z < 2 ^ 63 → FitsSigned w64 (f *ℤ z)
factor_fits b f z e h = below_fits (f *ℤ z) (omega (arith, factor_most b f z e, h))

-- a number as 64 bits hold it
abbrev in64 : ℤ → ℤ
in64 z = to_z w64 (of_z w64 z)

pub below63 : (z : ℤ) (n : ℕ) → unsigned_abs z ≤ n → n < 2 ^ 63 → FitsSigned w64 z
below63 z n h k = below_fits z (omega (arith, h, k))

pub product_kept : (x y : ℤ) (m n : ℕ) → unsigned_abs x ≤ m → m < 2 ^ 63 → unsigned_abs y ≤ n → n < 2 ^ 63 → FitsSigned w64 (x *ℤ y) → in64 (in64 x *ℤ in64 y) ≡ x *ℤ y
product_kept x y m n h k p q f = ap in64 (λ i. to_z-of_z w64 x (below63 x m h k) i *ℤ to_z-of_z w64 y (below63 y n p q) i) ∙ to_z-of_z w64 (x *ℤ y) f

-- what is computed from the bits of two numbers
pub common_is : (x y : ℤ) (p q r : ℕ) → unsigned_abs x ≤ 2 ^ 62 → unsigned_abs y ≤ 2 ^ 62 → r ≡ gcd p q → p ≡ unsigned_abs (in64 x) → q ≡ unsigned_abs (in64 y) → r ≡ gcd (unsigned_abs x) (unsigned_abs y)
common_is x y p q r h k e f g = cc (e, f, g, to_z-of_z w64 x (below63 x (2 ^ 62) h (lit≤ tt)), to_z-of_z w64 y (below63 y (2 ^ 62) k (lit≤ tt)))

pub common_most : (x y : ℤ) → unsigned_abs x ≤ 2 ^ 62 → unsigned_abs y ≤ 2 ^ 62 → gcd (unsigned_abs x) (unsigned_abs y) ≤ 2 ^ 62
common_most x y h k = let b : gcd (unsigned_abs x) (unsigned_abs y) < 2 ^ 62 + 1 = gcd_below (unsigned_abs x) (unsigned_abs y) (2 ^ 62 + 1) (omega arith) (omega arith) in omega (arith, b)

pub common_fits : (n : ℕ) → n ≤ 2 ^ 62 → FitsSigned w64 (pos n)
common_fits n h = below63 (pos n) (2 ^ 62) h (lit≤ tt)

pub common_kept : (n : ℕ) → n ≤ 2 ^ 62 → to_z w64 n ≡ pos n
common_kept n h = to_z_pos w64 n (omega (arith, h))

pub short_between : (z : ℤ) → negsuc 268435455 <ℤ z → z <ℤ pos 268435456 → unsigned_abs z ≤ 2 ^ 28
short_between z h k = omega (arith, ints)

pub tiny_between : (z : ℤ) → negsuc 2047 <ℤ z → z <ℤ pos 2048 → unsigned_abs z ≤ 2 ^ 11
tiny_between z h k = omega (arith, ints)

kept128 : (z : ℤ) → unsigned_abs z ≤ 2 ^ 28 → to_z w128 (of_z w128 z) ≡ z
kept128 z h = to_z-of_z w128 z (fits_signed_from_abs w128 z (omega (arith, h)))

pub shortened_fits : (z : ℤ) → unsigned_abs z ≤ 2 ^ 28 → FitsSigned w64 (to_z w128 (of_z w128 z))
shortened_fits z h = subst (λ (y : ℤ). FitsSigned w64 y) (sym (kept128 z h)) (below63 z (2 ^ 28) h (lit≤ tt))

pub shortened_is : (z : ℤ) → unsigned_abs z ≤ 2 ^ 28 → in64 (to_z w128 (of_z w128 z)) ≡ z
shortened_is z h = ap in64 (kept128 z h) ∙ to_z-of_z w64 z (below63 z (2 ^ 28) h (lit≤ tt))

-- 1 has no divisor but 1
pub gcd_one : (a : ℕ) (y : ℤ) → int_eq y (pos 1) ≡ true → y ≡ pos (gcd a (unsigned_abs y))
gcd_one a y h =
    let e : y ≡ pos 1 = (signed_Decides y (pos 1)).0 h in
    let one : gcd a 1 ≡ 1 = eq-one_of_dvd-one (gcd_is a 1).1 in
    e ∙ ap pos (sym one) ∙ ap (λ z. pos (gcd a (unsigned_abs z))) (sym e)

-- a number whose bits are those of either x or y
abbrev either : ℤ → ℤ → ℤ
either x y = to_z w128 (bit_or (of_z w128 x) (of_z w128 y))

-- its bits are 0 where it is
either_bits : (x y : ℤ) → FitsSigned w128 x → FitsSigned w128 y → either x y ≡ pos 0 → bit_or (of_z w128 x) (of_z w128 y) ≡ 0
either_bits x y h k e =
    let below : bit_or (of_z w128 x) (of_z w128 y) < 2 ^ 128 = or_lt 128 (of_z w128 x) (of_z w128 y) (omega (arith, ints, h)) (omega (arith, ints, k)) in
    sym (of_z-to_z w128 (bit_or (of_z w128 x) (of_z w128 y)) below) ∙ ap (of_z w128) e

bits_zero : (x : ℤ) → FitsSigned w128 x → of_z w128 x ≤ 0 → x ≡ pos 0
bits_zero x h e = let z : of_z w128 x ≡ 0 = omega (arith, e) in sym (to_z-of_z w128 x h) ∙ ap (to_z w128) z ∙ to_z_pos w128 0 (lit≤ tt)

pub either_left : (x y : ℤ) → FitsSigned w128 x → FitsSigned w128 y → either x y ≡ pos 0 → x ≡ pos 0
either_left x y h k e = bits_zero x h (subst (λ (n : ℕ). of_z w128 x ≤ n) (either_bits x y h k e) (le_or_l (of_z w128 x) (of_z w128 y)))

pub either_right : (x y : ℤ) → FitsSigned w128 x → FitsSigned w128 y → either x y ≡ pos 0 → y ≡ pos 0
either_right x y h k e = bits_zero y k (subst (λ (n : ℕ). of_z w128 y ≤ n) (either_bits x y h k e) (le_or_r (of_z w128 x) (of_z w128 y)))
