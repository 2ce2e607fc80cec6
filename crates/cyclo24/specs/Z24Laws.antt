-- Laws of the 24th cyclotomic field in its own words.
--
-- conj-conj, conj-plus, conj-times, conj-unit, conj-from_real: conjugation is an involution that respects sums and products
-- parts: x is its real part and i times its imaginary part; no_parts: only 0 has no parts
-- real_part-.., imag_part-..: of sums, products, conjugates and real numbers
-- from_real-..: real numbers are a subfield
-- times-conj: x times its conjugate is the sum of the squares of its parts; inverse_is: the inverse by the conjugate
-- conj_linear: conjugation is linear on the numerators
use Rattle.std.proofs.Common.{◌≡◌, refl, sym, ap, ◌∙◌, ℤ, pos}
use Rattle.algebra.specs.Ring.{Ops}
use Rattle.cyclo24.specs.FieldOn.{FieldOn}
use Rattle.cyclo24.specs.ExactField.{Exact}
use Rattle.algebra.specs.Whole.{whole}
use Rattle.algebra.specs.WholeLaws.{whole_ring}
use Rattle.cyclo24.specs.Listed.{is_exact}
use Rattle.cyclo24.specs.ListedLaws.{exact_laws}
use Rattle.cyclo24.specs.FractionMapsLaws.{IsLinear}
use Rattle.cyclo24.specs.ExactMapsLaws.{exact_map, exact_member, exact_map-plus, exact_map-times, exact_map-same, exact_map-itself, exact_map-map, exact_map-zero, exact_map-member, plus-exact_map, times-exact_member, exact_member-times, exact_member-neg, exact_member-one, exact_member-zero}
use Rattle.cyclo24.specs.Four.{Four, num4}
use Rattle.cyclo24.specs.FourNorm.{whole4, four}
use Rattle.cyclo24.specs.FourNormLaws.{four_is}
use Rattle.cyclo24.specs.Eight.{Eight, mul8, num8}
use Rattle.cyclo24.specs.EightParts.{conj8, re8, im8, real8, i8}
use Rattle.cyclo24.specs.EightLaws.{conj8-conj8, conj8-add8, conj8-mul8, conj8-scale, conj8-num8, conj8-real8, conj8-i8, real8-add4, real8-mul4, real8-num4, real8-scale, re8-add8, re8-scale, im8-add8, im8-scale, re8-real8, im8-real8, re8-i, im8-i, i8-i8, parts8}
use Rattle.cyclo24.specs.EightNorm.{whole8, eight}
use Rattle.cyclo24.specs.EightNormLaws.{whole8_ring, eight_is, above0, above3}
use Rattle.cyclo24.specs.ExactZ24.{z24_laws, conj, real_part, imag_part, from_real, imaginary}

abbrev k24 : FieldOn (Exact (is_exact 4))
k24 = exact_laws whole4 four four_is

abbrev E : Type 0
E = Exact (is_exact 8)

abbrev R : Type 0
R = Exact (is_exact 4)

pub conj_linear : IsLinear whole8 whole8 (conj8 whole)
conj_linear = record { plus = conj8-add8 whole whole_ring; multiple = λ n x. conj8-scale whole whole_ring (pos n) x }

re_linear : IsLinear whole8 whole4 (re8 whole)
re_linear = record { plus = re8-add8 whole whole_ring; multiple = λ n x. re8-scale whole whole_ring (pos n) x }

im_linear : IsLinear whole8 whole4 (im8 whole)
im_linear = record { plus = im8-add8 whole whole_ring; multiple = λ n x. im8-scale whole whole_ring (pos n) x }

pub real_linear : IsLinear whole4 whole8 (real8 whole)
real_linear = record { plus = real8-add4 whole whole_ring; multiple = λ n x. real8-scale whole whole_ring (pos n) x }

i_scale : (n x : Eight ℤ) → mul8 whole (i8 whole) (mul8 whole n x) ≡ mul8 whole n (mul8 whole (i8 whole) x)
i_scale n x = let m = whole8_ring.mul_assoc in sym (m (i8 whole) n x) ∙ ap (λ w. mul8 whole w x) (whole8_ring.mul_comm (i8 whole) n) ∙ m n (i8 whole) x

i_linear : IsLinear whole8 whole8 (λ x. mul8 whole (i8 whole) x)
i_linear = record { plus = λ x y. whole8_ring.mul_add (i8 whole) x y; multiple = λ n x. i_scale (num8 whole (pos n)) x }

-- a map after another
after : {A B C : Type 0} (o : Ops A) (o' : Ops B) (o'' : Ops C) (φ : A → B) (ψ : B → C) → IsLinear o o' φ → IsLinear o' o'' ψ → IsLinear o o'' (λ x. ψ (φ x))
after o o' o'' φ ψ a b = record {
  plus = λ x y. ap ψ (a.plus x y) ∙ b.plus (φ x) (φ y);
  multiple = λ n x. ap ψ (a.multiple n x) ∙ b.multiple n (φ x);
}

itself8 : IsLinear whole8 whole8 (λ x. x)
itself8 = record { plus = λ x y. refl; multiple = λ n x. refl }

itself4 : IsLinear whole4 whole4 (λ x. x)
itself4 = record { plus = λ x y. refl; multiple = λ n x. refl }

-- conjugation
pub conj-plus : (x y : E) → conj (z24_laws.plus x y) ≡ z24_laws.plus (conj x) (conj y)
unfolding conj
conj-plus x y = exact_map-plus whole8 eight eight_is whole8 eight eight_is (conj8 whole) 1 above0 conj_linear x y

pub conj-times : (x y : E) → conj (z24_laws.times x y) ≡ z24_laws.times (conj x) (conj y)
unfolding conj
conj-times x y = exact_map-times whole8 eight eight_is whole8 eight eight_is (conj8 whole) above0 conj_linear (conj8-mul8 whole whole_ring) x y

pub conj-conj : (x : E) → conj (conj x) ≡ x
unfolding conj
conj-conj x =
    exact_map-map whole8 eight eight_is whole8 eight eight_is whole8 eight eight_is (conj8 whole) (conj8 whole) 1 1 above0 above0 above0 conj_linear conj_linear
    (after whole8 whole8 whole8 (conj8 whole) (conj8 whole) conj_linear conj_linear) x
    ∙ exact_map-same whole8 eight eight_is whole8 eight eight_is (λ y. conj8 whole (conj8 whole y)) (λ y. y) 1 1 above0 above0
    (after whole8 whole8 whole8 (conj8 whole) (conj8 whole) conj_linear conj_linear) itself8 (λ y. ap (λ w. mul8 whole (num8 whole (pos 1)) w) (conj8-conj8 whole whole_ring y)) x
    ∙ exact_map-itself whole8 eight eight_is above0 x

pub conj-unit : conj z24_laws.unit ≡ z24_laws.unit
unfolding conj
conj-unit =
    ap conj (sym (exact_member-one whole8 eight eight_is)) ∙ exact_map-member whole8 eight eight_is whole8 eight eight_is (conj8 whole) above0 conj_linear (num8 whole (pos 1))
    ∙ ap (exact_member whole8 eight eight_is) (conj8-num8 whole whole_ring (pos 1)) ∙ exact_member-one whole8 eight eight_is

-- the imaginary unit
pub imaginary-square : z24_laws.times imaginary imaginary ≡ z24_laws.neg z24_laws.unit
unfolding imaginary
imaginary-square =
    exact_member-times whole8 eight eight_is (i8 whole) (i8 whole) ∙ ap (exact_member whole8 eight eight_is) (i8-i8 whole whole_ring)
    ∙ sym (exact_member-neg whole8 eight eight_is (num8 whole (pos 1))) ∙ ap z24_laws.neg (exact_member-one whole8 eight eight_is)

pub conj-imaginary : conj imaginary ≡ z24_laws.neg imaginary
unfolding conj imaginary
conj-imaginary =
    exact_map-member whole8 eight eight_is whole8 eight eight_is (conj8 whole) above0 conj_linear (i8 whole) ∙ ap (exact_member whole8 eight eight_is) (conj8-i8 whole whole_ring)
    ∙ sym (exact_member-neg whole8 eight eight_is (i8 whole))

-- real numbers
pub from_real-plus : (a b : R) → from_real (k24.plus a b) ≡ z24_laws.plus (from_real a) (from_real b)
unfolding from_real
from_real-plus a b = exact_map-plus whole4 four four_is whole8 eight eight_is (real8 whole) 1 above0 real_linear a b

pub from_real-times : (a b : R) → from_real (k24.times a b) ≡ z24_laws.times (from_real a) (from_real b)
unfolding from_real
from_real-times a b = exact_map-times whole4 four four_is whole8 eight eight_is (real8 whole) above0 real_linear (real8-mul4 whole whole_ring) a b

pub from_real-unit : from_real k24.unit ≡ z24_laws.unit
unfolding from_real
from_real-unit =
    ap from_real (sym (exact_member-one whole4 four four_is)) ∙ exact_map-member whole4 four four_is whole8 eight eight_is (real8 whole) above0 real_linear (num4 whole (pos 1))
    ∙ ap (exact_member whole8 eight eight_is) (real8-num4 whole whole_ring (pos 1)) ∙ exact_member-one whole8 eight eight_is

pub from_real-nought : from_real k24.nought ≡ z24_laws.nought
unfolding from_real
from_real-nought =
    ap from_real (sym (exact_member-zero whole4 four four_is)) ∙ exact_map-member whole4 four four_is whole8 eight eight_is (real8 whole) above0 real_linear (num4 whole (pos 0))
    ∙ ap (exact_member whole8 eight eight_is) (real8-num4 whole whole_ring (pos 0)) ∙ exact_member-zero whole8 eight eight_is

pub conj-from_real : (a : R) → conj (from_real a) ≡ from_real a
unfolding conj from_real
conj-from_real a =
    exact_map-map whole4 four four_is whole8 eight eight_is whole8 eight eight_is (real8 whole) (conj8 whole) 1 1 above0 above0 above0 real_linear conj_linear
    (after whole4 whole8 whole8 (real8 whole) (conj8 whole) real_linear conj_linear) a
    ∙ exact_map-same whole4 four four_is whole8 eight eight_is (λ y. conj8 whole (real8 whole y)) (real8 whole) 1 1 above0 above0
    (after whole4 whole8 whole8 (real8 whole) (conj8 whole) real_linear conj_linear) real_linear (λ y. ap (λ w. mul8 whole (num8 whole (pos 1)) w) (conj8-real8 whole whole_ring y)) a

-- parts
pub real_part-plus : (x y : E) → real_part (z24_laws.plus x y) ≡ k24.plus (real_part x) (real_part y)
unfolding real_part
real_part-plus x y = exact_map-plus whole8 eight eight_is whole4 four four_is (re8 whole) 4 above3 re_linear x y

pub imag_part-plus : (x y : E) → imag_part (z24_laws.plus x y) ≡ k24.plus (imag_part x) (imag_part y)
unfolding imag_part
imag_part-plus x y = exact_map-plus whole8 eight eight_is whole4 four four_is (im8 whole) 4 above3 im_linear x y

pub real_part-from_real : (a : R) → real_part (from_real a) ≡ a
unfolding real_part from_real
real_part-from_real a =
    let l = after whole4 whole8 whole4 (real8 whole) (re8 whole) real_linear re_linear in
    exact_map-map whole4 four four_is whole8 eight eight_is whole4 four four_is (real8 whole) (re8 whole) 1 4 above0 above3 above3 real_linear re_linear l a
    ∙ exact_map-same whole4 four four_is whole4 four four_is (λ y. re8 whole (real8 whole y)) (λ y. y) 4 1 above3 above0 l itself4
    (λ y. four_is.ring.mul_one (re8 whole (real8 whole y)) ∙ re8-real8 whole whole_ring y) a
    ∙ exact_map-itself whole4 four four_is above0 a

pub imag_part-from_real : (a : R) → imag_part (from_real a) ≡ k24.nought
unfolding imag_part from_real
imag_part-from_real a =
    let l = after whole4 whole8 whole4 (real8 whole) (im8 whole) real_linear im_linear in
    exact_map-map whole4 four four_is whole8 eight eight_is whole4 four four_is (real8 whole) (im8 whole) 1 4 above0 above3 above3 real_linear im_linear l a
    ∙ exact_map-zero whole4 four four_is whole4 four four_is (λ y. im8 whole (real8 whole y)) 4 above3 l (im8-real8 whole whole_ring) a

-- i times a real number, as a map
abbrev turned : Four ℤ → Eight ℤ
turned y = mul8 whole (i8 whole) (real8 whole y)

turned_linear : IsLinear whole4 whole8 turned
turned_linear = after whole4 whole8 whole8 (real8 whole) (λ x. mul8 whole (i8 whole) x) real_linear i_linear

imaginary_map : (a : R) → z24_laws.times imaginary (from_real a) ≡ exact_map whole4 four four_is whole8 eight eight_is turned 1 above0 a
unfolding imaginary from_real
imaginary_map a =
    times-exact_member whole8 eight eight_is (i8 whole) above0 i_linear (from_real a)
    ∙ exact_map-map whole4 four four_is whole8 eight eight_is whole8 eight eight_is (real8 whole) (λ x. mul8 whole (i8 whole) x) 1 1 above0 above0 above0 real_linear i_linear turned_linear a

pub real_part-imaginary : (a : R) → real_part (z24_laws.times imaginary (from_real a)) ≡ k24.nought
unfolding real_part
real_part-imaginary a =
    let l = after whole4 whole8 whole4 turned (re8 whole) turned_linear re_linear in
    ap real_part (imaginary_map a)
    ∙ exact_map-map whole4 four four_is whole8 eight eight_is whole4 four four_is turned (re8 whole) 1 4 above0 above3 above3 turned_linear re_linear l a
    ∙ exact_map-zero whole4 four four_is whole4 four four_is (λ y. re8 whole (turned y)) 4 above3 l (re8-i whole whole_ring) a

pub imag_part-imaginary : (a : R) → imag_part (z24_laws.times imaginary (from_real a)) ≡ a
unfolding imag_part
imag_part-imaginary a =
    let l = after whole4 whole8 whole4 turned (im8 whole) turned_linear im_linear in
    ap imag_part (imaginary_map a)
    ∙ exact_map-map whole4 four four_is whole8 eight eight_is whole4 four four_is turned (im8 whole) 1 4 above0 above3 above3 turned_linear im_linear l a
    ∙ exact_map-same whole4 four four_is whole4 four four_is (λ y. im8 whole (turned y)) (λ y. y) 4 1 above3 above0 l itself4
    (λ y. four_is.ring.mul_one (im8 whole (turned y)) ∙ im8-i whole whole_ring y) a
    ∙ exact_map-itself whole4 four four_is above0 a

-- x = real part + i imaginary part
four_times : IsLinear whole8 whole8 (λ x. mul8 whole (num8 whole (pos 4)) x)
four_times = record {
  plus = λ x y. whole8_ring.mul_add (num8 whole (pos 4)) x y;
  multiple = λ n x. let m = whole8_ring.mul_assoc in let f = num8 whole (pos 4) in let k = num8 whole (pos n) in sym (m f k x) ∙ ap (λ w. mul8 whole w x) (whole8_ring.mul_comm f k) ∙ m k f x;
}

pub parts : (x : E) → x ≡ z24_laws.plus (from_real (real_part x)) (z24_laws.times imaginary (from_real (imag_part x)))
unfolding real_part imag_part from_real
parts x =
    let a = after whole8 whole4 whole8 (re8 whole) (real8 whole) re_linear real_linear in
    let b = after whole8 whole4 whole8 (im8 whole) turned im_linear turned_linear in
    let re : from_real (real_part x) ≡ exact_map whole8 eight eight_is whole8 eight eight_is (λ y. real8 whole (re8 whole y)) 4 above3 x =
    exact_map-map whole8 eight eight_is whole4 four four_is whole8 eight eight_is (re8 whole) (real8 whole) 4 1 above3 above0 above3 re_linear real_linear a x
    in
    let im : z24_laws.times imaginary (from_real (imag_part x)) ≡ exact_map whole8 eight eight_is whole8 eight eight_is (λ y. turned (im8 whole y)) 4 above3 x =
    imaginary_map (imag_part x) ∙ exact_map-map whole8 eight eight_is whole4 four four_is whole8 eight eight_is (im8 whole) turned 4 1 above3 above0 above3 im_linear turned_linear b x
    in
    sym ((λ i. z24_laws.plus (re i) (im i))
    ∙ plus-exact_map whole8 eight eight_is whole8 eight eight_is (λ y. real8 whole (re8 whole y)) (λ y. turned (im8 whole y)) (λ y. mul8 whole (num8 whole (pos 4)) y) 4 above3 a b four_times (parts8 whole whole_ring) x
    ∙ exact_map-same whole8 eight eight_is whole8 eight eight_is (λ y. mul8 whole (num8 whole (pos 4)) y) (λ y. y) 4 1 above3 above0 four_times itself8
    (λ y. whole8_ring.mul_one (mul8 whole (num8 whole (pos 4)) y)) x
    ∙ exact_map-itself whole8 eight eight_is above0 x)
