-- What the calls on values of the 24th cyclotomic field give.
--
-- product_z24, sum_z24, conj_z24, real_z24, imag_z24, from_real_z24: what is reduced is the exact result
-- .._ready: what is answered can be reduced
-- negated_z24, small, zero_z24, one_z24, is_zero_z24: the other operations
use Rattle.std.proofs.Common.{◌≡◌, ◌<◌, ◌*◌, ◌/◌, ℕ, refl, sym, ap, ◌∙◌, subst, arith, rules, ℤ, pos, negsuc, ◌+ℤ◌, ◌*ℤ◌, [], ◌∷◌, Bool, true, false, Ok, le_trans, lit≤}
use Rattle.std.specs.Prelude.{IsTrue}
use Rattle.std.specs.Int.RustNames.{unsigned_abs}
use Rattle.std.proofs.lemmas.Int.{unsigned_abs-mul}
use Rattle.cyclo24.specs.declared.whole.Whole.{Whole}
use Rattle.cyclo24.specs.declared.fraction4.Fraction4.{Fraction4}
use Rattle.cyclo24.specs.declared.fraction8.Fraction8.{Fraction8}
use Rattle.cyclo24.specs.Gcd.{gcd, quotient, lowest_terms, all_zero}
use Rattle.algebra.specs.Whole.{whole}
use Rattle.cyclo24.specs.FourNorm.{whole4, four, list4}
use Rattle.cyclo24.specs.FourNormLaws.{four_is}
use Rattle.cyclo24.specs.Eight.{mul8}
use Rattle.cyclo24.specs.EightParts.{conj8, re8, im8, real8}
use Rattle.cyclo24.specs.EightNorm.{whole8, eight, list8}
use Rattle.cyclo24.specs.EightNormLaws.{eight_is, above0, above3}
use Rattle.cyclo24.specs.Listed.{is_exact, is_positive}
use Rattle.cyclo24.specs.ListedLaws.{exact_is, positive_abs, same_exact, is_nought-is}
use Rattle.cyclo24.specs.ExactLaws.{plus-is, neg-is, neg-list, times-is, nought-is, unit-is}
use Rattle.cyclo24.specs.ExactMapsLaws.{exact_map-is}
use Rattle.cyclo24.specs.Checked.{is_wide, answer}
use Rattle.cyclo24.specs.CheckedLaws.{answer_ok, neg_narrow, below_wide}
use Rattle.cyclo24.specs.Written4.{numbers4, numerators4, four_of, IsNarrow4}
use Rattle.cyclo24.specs.Written8.{numbers8, numerators8, eight_of, IsNarrow8, num, sum, negated}
use Rattle.cyclo24.specs.Written8Products.{product}
use Rattle.cyclo24.specs.Written8Parts.{conjugate, real, imaginary, from_four}
use Rattle.cyclo24.specs.Written8ValuesLaws.{product_value, sum_value, conjugate_value, real_value, imaginary_value, from_four_value, conjugate_narrow, real_narrow, imaginary_narrow, from_four_narrow}
use Rattle.cyclo24.specs.ExactK24.{Exact24}
use Rattle.cyclo24.specs.ExactZ24.{ExactZ24, z24_laws, conj, real_part, imag_part, from_real}
use Rattle.cyclo24.specs.Z24Calls.{IsLow8, IsLow4, exact_of8, exact_of4, over_gcd, small}

positive_pos : (n : ℕ) → 0 < n → is_positive (pos n) ≡ true
positive_pos n h = search rules

-- what an exact denominator says
pub low_positive8 : (r : Fraction8) → IsLow8 r → is_positive r.d.n ≡ true
low_positive8 r h = let e = exact_is 8 (numbers8 r) h in ap is_positive e.upright ∙ positive_pos (unsigned_abs r.d.n) e.positive

pub low_positive4 : (r : Fraction4) → IsLow4 r → is_positive r.d.n ≡ true
low_positive4 r h = let e = exact_is 4 (numbers4 r) h in ap is_positive e.upright ∙ positive_pos (unsigned_abs r.d.n) e.positive

-- a fraction with the list of an exact value is in lowest terms and has this value
pub made_low8 : (r : Fraction8) (x : ExactZ24) → numbers8 r ≡ x.0 → IsLow8 r
made_low8 r x e = ap (is_exact 8) e ∙ x.1

pub made_value8 : (r : Fraction8) (x : ExactZ24) → numbers8 r ≡ x.0 → (h : IsLow8 r) → exact_of8 r h ≡ x
made_value8 r x e h = same_exact (exact_of8 r h) x e

pub made_low4 : (r : Fraction4) (x : Exact24) → numbers4 r ≡ x.0 → IsLow4 r
made_low4 r x e = ap (is_exact 4) e ∙ x.1

pub made_value4 : (r : Fraction4) (x : Exact24) → numbers4 r ≡ x.0 → (h : IsLow4 r) → exact_of4 r h ≡ x
made_value4 r x e h = same_exact (exact_of4 r h) x e

-- an answer is an error exactly where the test holds
pub wide_ok : (w : Bool) → w ≡ false → (false ≡ true → IsTrue w) × (IsTrue w → false ≡ true)
wide_ok w e = (λ f. absurd (cc), λ t. sym e ∙ t)

mul_above : (m n : ℕ) → 0 < m → 0 < n → 0 < m * n
mul_above m n p q = grind arith

product_positive : (x y : ℤ) → is_positive x ≡ true → is_positive y ≡ true → is_positive (x *ℤ y) ≡ true
product_positive (pos m) (pos n) h k = positive_pos (m * n) (mul_above m n (positive_abs (pos m) h).0 (positive_abs (pos n) k).0)
product_positive (pos m) (negsuc n) h k = absurd (cc)
product_positive (negsuc m) y h k = absurd (cc)

pub product_z24 : (a b r s : Fraction8) (h : IsLow8 a) (k : IsLow8 b) → (product a b).value ≡ r → numbers8 s ≡ lowest_terms (numerators8 r) (unsigned_abs r.d.n)
    → numbers8 s ≡ (z24_laws.times (exact_of8 a h) (exact_of8 b k)).0
product_z24 a b r s h k e q =
    let v = product_value a b in
    let n : numerators8 r ≡ list8 (mul8 whole (eight_of a) (eight_of b)) = ap numerators8 (sym e) ∙ v.0 in
    let d : unsigned_abs r.d.n ≡ unsigned_abs a.d.n * unsigned_abs b.d.n = ap (λ (s : Fraction8). unsigned_abs s.d.n) (sym e) ∙ ap unsigned_abs v.1 ∙ unsigned_abs-mul a.d.n b.d.n in
    q ∙ (λ i. lowest_terms (n i) (d i)) ∙ sym (times-is whole8 eight eight_is (exact_of8 a h) (exact_of8 b k))

quotient_upright : (z : ℤ) (g : ℕ) → is_positive z ≡ true → quotient z g ≡ pos (unsigned_abs z / g)
quotient_upright (pos n) g h = refl
quotient_upright (negsuc n) g h = absurd (cc)

pub sum_z24 : (a b r s : Fraction8) (h : IsLow8 a) (k : IsLow8 b) → (sum a b).value ≡ r → numbers8 s ≡ lowest_terms (numerators8 r) (unsigned_abs r.d.n) → numbers8 s ≡ (z24_laws.plus (exact_of8 a h) (exact_of8 b k)).0
sum_z24 a b r s h k e l =
    let g = gcd (unsigned_abs a.d.n) (unsigned_abs b.d.n) in
    let q = num (quotient b.d.n g) in
    let p = num (quotient a.d.n g) in
    let v = sum_value a q b p in
    let qe = quotient_upright b.d.n g (low_positive8 b k) in
    let pe = quotient_upright a.d.n g (low_positive8 a h) in
    let n = ap numerators8 (sym e) ∙ v.0
    ∙ (λ i. (qe i *ℤ a.c0.n +ℤ pe i *ℤ b.c0.n) ∷ (qe i *ℤ a.c1.n +ℤ pe i *ℤ b.c1.n) ∷ (qe i *ℤ a.c2.n +ℤ pe i *ℤ b.c2.n) ∷ (qe i *ℤ a.c3.n +ℤ pe i *ℤ b.c3.n) ∷ (qe i *ℤ a.c4.n +ℤ pe i *ℤ b.c4.n) ∷ (qe i *ℤ a.c5.n +ℤ pe i *ℤ b.c5.n) ∷ (qe i *ℤ a.c6.n +ℤ pe i *ℤ b.c6.n) ∷ (qe i *ℤ a.c7.n +ℤ pe i *ℤ b.c7.n) ∷ []) in
    let d : unsigned_abs r.d.n ≡ unsigned_abs a.d.n * over_gcd b a b = ap (λ (s : Fraction8). unsigned_abs s.d.n) (sym e) ∙ ap unsigned_abs v.1 ∙ ap (λ z. unsigned_abs (a.d.n *ℤ z)) qe ∙ unsigned_abs-mul a.d.n (pos (over_gcd b a b)) in
    l ∙ (λ i. lowest_terms (n i) (d i)) ∙ sym (plus-is whole8 eight eight_is (exact_of8 a h) (exact_of8 b k))

pub negated_z24 : (r s : Fraction8) (h : IsLow8 r) → s ≡ negated r → numbers8 s ≡ (z24_laws.neg (exact_of8 r h)).0
negated_z24 r s h e = ap numbers8 e ∙ sym (neg-is whole8 eight eight_is (exact_of8 r h) ∙ neg-list whole8 eight eight_is (exact_of8 r h))

pub negated_narrow8 : (r s : Fraction8) → IsNarrow8 r → s ≡ negated r → IsNarrow8 s
negated_narrow8 r s h e =
    subst IsNarrow8 (sym e)
    (record { narrow0 = neg_narrow r.c0.n h.narrow0; narrow1 = neg_narrow r.c1.n h.narrow1; narrow2 = neg_narrow r.c2.n h.narrow2; narrow3 = neg_narrow r.c3.n h.narrow3; narrow4 = neg_narrow r.c4.n h.narrow4; narrow5 = neg_narrow r.c5.n h.narrow5; narrow6 = neg_narrow r.c6.n h.narrow6; narrow7 = neg_narrow r.c7.n h.narrow7; narrow = h.narrow })

pub small_narrow : (n : ℕ) → n < 2 → IsNarrow8 (small n)
small_narrow n h =
    let zero : is_wide (pos 0) ≡ false = below_wide (pos 0) (lit≤ tt) in
    record { narrow0 = below_wide (pos n) (le_trans h (lit≤ tt)); narrow1 = zero; narrow2 = zero; narrow3 = zero; narrow4 = zero; narrow5 = zero; narrow6 = zero; narrow7 = zero; narrow = below_wide (pos 1) (lit≤ tt) }

pub zero_z24 : numbers8 (small 0) ≡ z24_laws.nought.0
unfolding gcd
zero_z24 = sym (nought-is whole8 eight eight_is)

pub one_z24 : numbers8 (small 1) ≡ z24_laws.unit.0
unfolding gcd
one_z24 = sym (unit-is whole8 eight eight_is)

pub is_zero_z24 : (r : Fraction8) (h : IsLow8 r) → all_zero (numerators8 r) ≡ z24_laws.is_nought (exact_of8 r h)
is_zero_z24 r h = sym (is_nought-is whole8 eight eight_is (exact_of8 r h))

one_times : (n : ℕ) → n ≡ 1 * n
one_times n = omega arith

pub conj_ready : (a r : Fraction8) → IsNarrow8 a → IsLow8 a → answer (conjugate a) ≡ Ok r → IsNarrow8 r × (is_positive r.d.n ≡ true)
conj_ready a r n h e =
    let f = answer_ok (conjugate a) r e in
    let d : r.d.n ≡ a.d.n = ap (λ (s : Fraction8). s.d.n) (sym f.1) ∙ ap (λ (w : Whole). w.n) (conjugate_value a).1 in
    (subst IsNarrow8 f.1 (conjugate_narrow a n f.0), ap is_positive d ∙ low_positive8 a h)

pub conj_z24 : (a r s : Fraction8) (h : IsLow8 a) → answer (conjugate a) ≡ Ok r → numbers8 s ≡ lowest_terms (numerators8 r) (unsigned_abs r.d.n) → numbers8 s ≡ (conj (exact_of8 a h)).0
unfolding conj
conj_z24 a r s h e q =
    let f = answer_ok (conjugate a) r e in
    let v = conjugate_value a in
    let n : numerators8 r ≡ list8 (conj8 whole (eight_of a)) = ap numerators8 (sym f.1) ∙ v.0 in
    let d : unsigned_abs r.d.n ≡ 1 * unsigned_abs a.d.n = ap (λ (s : Fraction8). unsigned_abs s.d.n) (sym f.1) ∙ ap (λ (w : Whole). unsigned_abs w.n) v.1 ∙ one_times (unsigned_abs a.d.n) in
    q ∙ (λ i. lowest_terms (n i) (d i)) ∙ sym (exact_map-is whole8 eight eight_is whole8 eight eight_is (conj8 whole) 1 above0 (exact_of8 a h))

pub real_ready : (a : Fraction8) (r : Fraction4) → IsLow8 a → answer (real a) ≡ Ok r → IsNarrow4 r × (is_positive r.d.n ≡ true)
real_ready a r h e =
    let f = answer_ok (real a) r e in
    let d : r.d.n ≡ pos 4 *ℤ a.d.n = ap (λ (s : Fraction4). s.d.n) (sym f.1) ∙ (real_value a).1 in
    (subst IsNarrow4 f.1 (real_narrow a f.0), ap is_positive d ∙ product_positive (pos 4) a.d.n refl (low_positive8 a h))

pub real_z24 : (a : Fraction8) (r s : Fraction4) (h : IsLow8 a) → answer (real a) ≡ Ok r → numbers4 s ≡ lowest_terms (numerators4 r) (unsigned_abs r.d.n) → numbers4 s ≡ (real_part (exact_of8 a h)).0
unfolding real_part
real_z24 a r s h e q =
    let f = answer_ok (real a) r e in
    let v = real_value a in
    let n : numerators4 r ≡ list4 (re8 whole (eight_of a)) = ap numerators4 (sym f.1) ∙ v.0 in
    let d : unsigned_abs r.d.n ≡ 4 * unsigned_abs a.d.n = ap (λ (s : Fraction4). unsigned_abs s.d.n) (sym f.1) ∙ ap unsigned_abs v.1 ∙ unsigned_abs-mul (pos 4) a.d.n in
    q ∙ (λ i. lowest_terms (n i) (d i)) ∙ sym (exact_map-is whole8 eight eight_is whole4 four four_is (re8 whole) 4 above3 (exact_of8 a h))

pub imag_ready : (a : Fraction8) (r : Fraction4) → IsLow8 a → answer (imaginary a) ≡ Ok r → IsNarrow4 r × (is_positive r.d.n ≡ true)
imag_ready a r h e =
    let f = answer_ok (imaginary a) r e in
    let d : r.d.n ≡ pos 4 *ℤ a.d.n = ap (λ (s : Fraction4). s.d.n) (sym f.1) ∙ (imaginary_value a).1 in
    (subst IsNarrow4 f.1 (imaginary_narrow a f.0), ap is_positive d ∙ product_positive (pos 4) a.d.n refl (low_positive8 a h))

pub imag_z24 : (a : Fraction8) (r s : Fraction4) (h : IsLow8 a) → answer (imaginary a) ≡ Ok r → numbers4 s ≡ lowest_terms (numerators4 r) (unsigned_abs r.d.n) → numbers4 s ≡ (imag_part (exact_of8 a h)).0
unfolding imag_part
imag_z24 a r s h e q =
    let f = answer_ok (imaginary a) r e in
    let v = imaginary_value a in
    let n : numerators4 r ≡ list4 (im8 whole (eight_of a)) = ap numerators4 (sym f.1) ∙ v.0 in
    let d : unsigned_abs r.d.n ≡ 4 * unsigned_abs a.d.n = ap (λ (s : Fraction4). unsigned_abs s.d.n) (sym f.1) ∙ ap unsigned_abs v.1 ∙ unsigned_abs-mul (pos 4) a.d.n in
    q ∙ (λ i. lowest_terms (n i) (d i)) ∙ sym (exact_map-is whole8 eight eight_is whole4 four four_is (im8 whole) 4 above3 (exact_of8 a h))

pub from_real_ready : (a : Fraction4) (r : Fraction8) → IsNarrow4 a → IsLow4 a → answer (from_four a) ≡ Ok r → IsNarrow8 r × (is_positive r.d.n ≡ true)
from_real_ready a r n h e =
    let f = answer_ok (from_four a) r e in
    let d : r.d.n ≡ a.d.n = ap (λ (s : Fraction8). s.d.n) (sym f.1) ∙ ap (λ (w : Whole). w.n) (from_four_value a).1 in
    (subst IsNarrow8 f.1 (from_four_narrow a n f.0), ap is_positive d ∙ low_positive4 a h)

pub from_real_z24 : (a : Fraction4) (r s : Fraction8) (h : IsLow4 a) → answer (from_four a) ≡ Ok r → numbers8 s ≡ lowest_terms (numerators8 r) (unsigned_abs r.d.n) → numbers8 s ≡ (from_real (exact_of4 a h)).0
unfolding from_real
from_real_z24 a r s h e q =
    let f = answer_ok (from_four a) r e in
    let v = from_four_value a in
    let n : numerators8 r ≡ list8 (real8 whole (four_of a)) = ap numerators8 (sym f.1) ∙ v.0 in
    let d : unsigned_abs r.d.n ≡ 1 * unsigned_abs a.d.n = ap (λ (s : Fraction8). unsigned_abs s.d.n) (sym f.1) ∙ ap (λ (w : Whole). unsigned_abs w.n) v.1 ∙ one_times (unsigned_abs a.d.n) in
    q ∙ (λ i. lowest_terms (n i) (d i)) ∙ sym (exact_map-is whole4 four four_is whole8 eight eight_is (real8 whole) 1 above0 (exact_of4 a h))
