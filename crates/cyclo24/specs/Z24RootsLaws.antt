-- The powers of z = exp(2 pi i / 24).
--
-- power-plus: products of powers; power-24, power-mod: z to the power 24 is 1; times-power: the product of powers below 24
-- power-8: z^8 = z^4 - 1; power-12: z^12 = -1; power-6: z^6 is the imaginary unit
-- power8 n: the coefficients of z to the power n; row_is: the table of them
-- from_real-r2, from_real-r3, from_real-r6: the square roots by powers of z
use Rattle.std.proofs.Common.{◌≡◌, ℕ, zero, suc, ◌+◌, ◌*◌, ◌/◌, ◌%◌, ◌<◌, refl, sym, ap, ◌∙◌, arith, ℤ, pos, List, get_or}
use Rattle.cyclo24.specs.FieldLaws.{unit-times}
use Rattle.cyclo24.specs.Gcd.{gcd, lowest_terms}
use Rattle.cyclo24.specs.RootsK24.{r2, r3, r6}
use Rattle.algebra.specs.Whole.{whole}
use Rattle.cyclo24.specs.ListedLaws.{same_exact}
use Rattle.cyclo24.specs.ExactMapsLaws.{exact_member, exact_member-plus, exact_member-times, exact_member-neg, exact_member-one, exact_map-member, exact_member-is}
use Rattle.cyclo24.specs.Four.{Four}
use Rattle.cyclo24.specs.FourNorm.{whole4, four}
use Rattle.cyclo24.specs.FourNormLaws.{four_is}
use Rattle.cyclo24.specs.Eight.{mul8, add8, neg8, num8}
use Rattle.cyclo24.specs.EightParts.{real8, z8, i8}
use Rattle.cyclo24.specs.EightNorm.{whole8, eight, list8}
use Rattle.cyclo24.specs.EightNormLaws.{eight_is, above0}
use Rattle.cyclo24.specs.ExactZ24.{ExactZ24, z24_laws, root_of_unity, power, imaginary, from_real}
use Rattle.cyclo24.specs.Z24Laws.{real_linear}
use Rattle.cyclo24.specs.Z24Roots.{member, power8, four2, four3, four6, rows_from}

pub power_is : (n : ℕ) → power n ≡ member (power8 n)
unfolding root_of_unity
power_is zero = sym (exact_member-one whole8 eight eight_is)
power_is (suc n) = ap (z24_laws.times root_of_unity) (power_is n) ∙ exact_member-times whole8 eight eight_is (z8 whole) (power8 n)

pub power-plus : (m n : ℕ) → power (m + n) ≡ z24_laws.times (power m) (power n)
power-plus zero n = let e : zero + n ≡ n = omega arith in ap power e ∙ sym (unit-times z24_laws (power n))
power-plus (suc m) n = let e : suc m + n ≡ suc (m + n) = omega arith in ap power e ∙ ap (z24_laws.times root_of_unity) (power-plus m n) ∙ sym (z24_laws.times_assoc root_of_unity (power m) (power n))

power8-24 : power8 24 ≡ num8 whole (pos 1)
unfolding mul8
power8-24 = refl

pub power-24 : power 24 ≡ z24_laws.unit
power-24 = power_is 24 ∙ ap member power8-24 ∙ exact_member-one whole8 eight eight_is

power8-12 : power8 12 ≡ neg8 whole (num8 whole (pos 1))
unfolding mul8
power8-12 = refl

pub power-12 : power 12 ≡ z24_laws.neg z24_laws.unit
power-12 = power_is 12 ∙ ap member power8-12 ∙ sym (exact_member-neg whole8 eight eight_is (num8 whole (pos 1))) ∙ ap z24_laws.neg (exact_member-one whole8 eight eight_is)

power8-8 : power8 8 ≡ add8 whole (power8 4) (neg8 whole (num8 whole (pos 1)))
unfolding mul8
power8-8 = refl

pub power-8 : power 8 ≡ z24_laws.plus (power 4) (z24_laws.neg z24_laws.unit)
power-8 =
    power_is 8 ∙ ap member power8-8 ∙ sym (exact_member-plus whole8 eight eight_is (power8 4) (neg8 whole (num8 whole (pos 1))))
    ∙ sym (λ i. z24_laws.plus (power_is 4 i) ((ap z24_laws.neg (sym (exact_member-one whole8 eight eight_is)) ∙ exact_member-neg whole8 eight eight_is (num8 whole (pos 1))) i))

power8-6 : power8 6 ≡ i8 whole
unfolding mul8
power8-6 = refl

pub power-6 : power 6 ≡ imaginary
unfolding imaginary
power-6 = power_is 6 ∙ ap member power8-6

-- whole turns
turns : (q r : ℕ) → power (24 * q + r) ≡ power r
turns zero r = let e : 24 * zero + r ≡ r = omega arith in ap power e
turns (suc q) r =
    let e : 24 * suc q + r ≡ 24 + (24 * q + r) = omega arith in
    ap power e ∙ power-plus 24 (24 * q + r) ∙ ap (λ w. z24_laws.times w (power (24 * q + r))) power-24 ∙ unit-times z24_laws (power (24 * q + r)) ∙ turns q r

pub power-mod : (n : ℕ) → power (n % 24) ≡ power n
power-mod n = let e : n ≡ 24 * (n / 24) + n % 24 = omega arith in sym (ap power e ∙ turns (n / 24) (n % 24))

-- a product of powers
pub times-power : (a b : ℕ) → z24_laws.times (power a) (power b) ≡ power ((a + b) % 24)
times-power a b = sym (power-mod (a + b) ∙ power-plus a b)

-- a real number of whole coefficients
pub from_real-member : (a : Four ℤ) → from_real (exact_member whole4 four four_is a) ≡ member (real8 whole a)
unfolding from_real
from_real-member a = exact_map-member whole4 four four_is whole8 eight eight_is (real8 whole) above0 real_linear a

power8-sum : (m n : ℕ) → z24_laws.plus (power m) (power n) ≡ member (add8 whole (power8 m) (power8 n))
power8-sum m n = (λ i. z24_laws.plus (power_is m i) (power_is n i)) ∙ exact_member-plus whole8 eight eight_is (power8 m) (power8 n)

real8-r2 : real8 whole four2 ≡ add8 whole (power8 3) (power8 21)
unfolding real8 mul8
real8-r2 = refl

real8-r3 : real8 whole four3 ≡ add8 whole (power8 2) (power8 22)
unfolding real8 mul8
real8-r3 = refl

real8-r6 : real8 whole four6 ≡ add8 whole (add8 whole (power8 1) (power8 23)) (add8 whole (power8 5) (power8 19))
unfolding real8 mul8
real8-r6 = refl

pub r2_member : r2 ≡ exact_member whole4 four four_is four2
unfolding gcd
r2_member = same_exact r2 (exact_member whole4 four four_is four2) (sym (exact_member-is whole4 four four_is four2))

pub r3_member : r3 ≡ exact_member whole4 four four_is four3
unfolding gcd
r3_member = same_exact r3 (exact_member whole4 four four_is four3) (sym (exact_member-is whole4 four four_is four3))

pub r6_member : r6 ≡ exact_member whole4 four four_is four6
unfolding gcd
r6_member = same_exact r6 (exact_member whole4 four four_is four6) (sym (exact_member-is whole4 four four_is four6))

pub from_real-r2 : from_real r2 ≡ z24_laws.plus (power 3) (power 21)
from_real-r2 = ap from_real r2_member ∙ from_real-member four2 ∙ ap member real8-r2 ∙ sym (power8-sum 3 21)

pub from_real-r3 : from_real r3 ≡ z24_laws.plus (power 2) (power 22)
from_real-r3 = ap from_real r3_member ∙ from_real-member four3 ∙ ap member real8-r3 ∙ sym (power8-sum 2 22)

pub from_real-r6 : from_real r6 ≡ z24_laws.plus (z24_laws.plus (power 1) (power 23)) (z24_laws.plus (power 5) (power 19))
from_real-r6 =
    ap from_real r6_member ∙ from_real-member four6 ∙ ap member real8-r6 ∙ sym (exact_member-plus whole8 eight eight_is (add8 whole (power8 1) (power8 23)) (add8 whole (power8 5) (power8 19)))
    ∙ sym (λ i. z24_laws.plus (power8-sum 1 23 i) (power8-sum 5 19 i))

rows_at : (d : List ℤ) (k n i : ℕ) → i < n → get_or (rows_from k n) i d ≡ list8 (power8 (k + i))
rows_at d k zero i h = absurd (omega arith)
rows_at d k (suc n) zero h = let e : k ≡ k + zero = omega arith in ap (λ m. list8 (power8 m)) e
rows_at d k (suc n) (suc i) h = let e : suc k + i ≡ k + suc i = omega arith in rows_at d (suc k) n i (omega arith) ∙ ap (λ m. list8 (power8 m)) e

pub row_is : (d : List ℤ) (n i : ℕ) → i < n → get_or (rows_from 0 n) i d ≡ list8 (power8 i)
row_is d n i h = let e : 0 + i ≡ i = omega arith in rows_at d 0 n i h ∙ ap (λ m. list8 (power8 m)) e

-- small and over 1
pub power8-one : (n : ℕ) → (power n).0 ≡ lowest_terms (list8 (power8 n)) 1
power8-one n = ap (λ (x : ExactZ24). x.0) (power_is n) ∙ exact_member-is whole8 eight eight_is (power8 n)
