-- The values of the formulas on eight numerators over a denominator, and that they are narrow where they are answered.
--
-- product_value, sum_value, conjugate_value, real_value, imaginary_value, from_four_value: the numerators and the denominator that are answered
-- product_narrow, sum_narrow, conjugate_narrow, real_narrow, imaginary_narrow, from_four_narrow: no number of an answer is wide
use Rattle.std.proofs.Common.{◌≡◌, refl, sym, ap, ◌∙◌, subst, arith, ℤ, pos, negsuc, neg_ℤ, ◌+ℤ◌, ◌*ℤ◌, List, [], ◌∷◌, false, lit≤}
use Rattle.std.proofs.lemmas.Int.{ints}
use Rattle.cyclo24.specs.declared.whole.Whole.{Whole}
use Rattle.cyclo24.specs.declared.fraction4.Fraction4.{Fraction4}
use Rattle.cyclo24.specs.declared.fraction8.Fraction8.{Fraction8}
use Rattle.cyclo24.specs.declared.fraction8.High.{High}
use Rattle.algebra.specs.Whole.{whole}
use Rattle.algebra.specs.WholeLaws.{add_zeroℤ}
use Rattle.cyclo24.specs.FourNorm.{list4}
use Rattle.cyclo24.specs.Eight.{mul8, s0, s1, s2, s3, s4, s5, s6, s7, s8, s9, s10, s11, s12, s13, s14}
use Rattle.cyclo24.specs.EightParts.{conj8, re8, im8, real8}
use Rattle.cyclo24.specs.EightNorm.{list8}
use Rattle.cyclo24.specs.Checked.{Checked, any_wide, is_wide, then, times, plus}
use Rattle.cyclo24.specs.CheckedLaws.{then_narrow, written_narrow, below_wide}
use Rattle.cyclo24.specs.Written4.{numerators4, four_of, IsNarrow4, fraction}
use Rattle.cyclo24.specs.Written8.{numerators8, eight_of, IsNarrow8, num, dot_from, dot, fraction8, joined, sum_over}
use Rattle.cyclo24.specs.Written8Products.{high_sums, less_two, and_one, low, product}
use Rattle.cyclo24.specs.Written8Parts.{signed, conjugate, real, imaginary, from_four}

-- an answered number is narrow
abbrev IsKept : Checked Whole → Type 0
IsKept m = any_wide m.written ≡ false → is_wide m.value.n ≡ false

dot_from_kept : (s : Whole) (xs ys : List Whole) → is_wide s.n ≡ false → IsKept (dot_from s xs ys)
unfolding dot_from then
dot_from_kept s [] ys h e = h
dot_from_kept s (x ∷ xs) [] h e = h
dot_from_kept s (x ∷ xs) (y ∷ ys) h e =
    let a = then_narrow (times x y) (λ p. then (plus s p) (λ r. dot_from r xs ys)) e in
    let b = then_narrow (plus s (times x y).value) (λ r. dot_from r xs ys) a.1 in
    dot_from_kept (plus s (times x y).value).value xs ys (written_narrow (s.n +ℤ x.n *ℤ y.n) b.0) b.1

dot_kept : (xs ys : List Whole) → IsKept (dot xs ys)
dot_kept xs ys = dot_from_kept (num (pos 0)) xs ys (below_wide (pos 0) (lit≤ tt))

times_kept : (x y : Whole) → IsKept (times x y)
times_kept x y e = written_narrow (x.n *ℤ y.n) e

plus_kept : (x y : Whole) → IsKept (plus x y)
plus_kept x y e = written_narrow (x.n +ℤ y.n) e

less_two_kept : (xs ys : List Whole) (x y : Whole) → IsKept (less_two xs ys x y)
unfolding less_two then
less_two_kept xs ys x y e =
    let h = then_narrow (dot xs ys) (λ s. dot (num (pos 1) ∷ num (negsuc 0) ∷ num (negsuc 0) ∷ []) (s ∷ x ∷ y ∷ [])) e in
    dot_kept (num (pos 1) ∷ num (negsuc 0) ∷ num (negsuc 0) ∷ []) ((dot xs ys).value ∷ x ∷ y ∷ []) h.1

and_one_kept : (xs ys : List Whole) (sign x : Whole) → IsKept (and_one xs ys sign x)
unfolding and_one then
and_one_kept xs ys sign x e =
    let h = then_narrow (dot xs ys) (λ s. dot (num (pos 1) ∷ sign ∷ []) (s ∷ x ∷ [])) e in dot_kept (num (pos 1) ∷ sign ∷ []) ((dot xs ys).value ∷ x ∷ []) h.1

fraction8_parts : (c0 c1 c2 c3 c4 c5 c6 c7 d : Checked Whole) → any_wide (fraction8 c0 c1 c2 c3 c4 c5 c6 c7 d).written ≡ false
    → (any_wide c0.written ≡ false) × (any_wide c1.written ≡ false) × (any_wide c2.written ≡ false) × (any_wide c3.written ≡ false) × (any_wide c4.written ≡ false) × (any_wide c5.written ≡ false) × (any_wide c6.written ≡ false) × (any_wide c7.written ≡ false) × (any_wide d.written ≡ false)
unfolding fraction8
fraction8_parts c0 c1 c2 c3 c4 c5 c6 c7 d e =
    let h0 = then_narrow c0 _ e in
    let h1 = then_narrow c1 _ h0.1 in
    let h2 = then_narrow c2 _ h1.1 in
    let h3 = then_narrow c3 _ h2.1 in
    let h4 = then_narrow c4 _ h3.1 in
    let h5 = then_narrow c5 _ h4.1 in
    let h6 = then_narrow c6 _ h5.1 in
    let h7 = then_narrow c7 _ h6.1 in
    (h0.0, h1.0, h2.0, h3.0, h4.0, h5.0, h6.0, h7.0, (then_narrow d _ h7.1).0)

fraction8_value : (c0 c1 c2 c3 c4 c5 c6 c7 d : Checked Whole) → (fraction8 c0 c1 c2 c3 c4 c5 c6 c7 d).value ≡ record { d = d.value; c0 = c0.value; c1 = c1.value; c2 = c2.value; c3 = c3.value; c4 = c4.value; c5 = c5.value; c6 = c6.value; c7 = c7.value }
unfolding fraction8 then
fraction8_value c0 c1 c2 c3 c4 c5 c6 c7 d = refl

fraction8_narrow : (c0 c1 c2 c3 c4 c5 c6 c7 d : Checked Whole) → IsKept c0 → IsKept c1 → IsKept c2 → IsKept c3 → IsKept c4 → IsKept c5 → IsKept c6 → IsKept c7 → IsKept d → any_wide (fraction8 c0 c1 c2 c3 c4 c5 c6 c7 d).written ≡ false → IsNarrow8 (fraction8 c0 c1 c2 c3 c4 c5 c6 c7 d).value
fraction8_narrow c0 c1 c2 c3 c4 c5 c6 c7 d k0 k1 k2 k3 k4 k5 k6 k7 kd e =
    let h = fraction8_parts c0 c1 c2 c3 c4 c5 c6 c7 d e in
    subst IsNarrow8 (sym (fraction8_value c0 c1 c2 c3 c4 c5 c6 c7 d))
    (record { narrow0 = k0 h.0; narrow1 = k1 h.1; narrow2 = k2 h.2; narrow3 = k3 h.3; narrow4 = k4 h.4; narrow5 = k5 h.5; narrow6 = k6 h.6; narrow7 = k7 h.7; narrow = kd h.8 })

fraction_parts : (c0 c1 c2 c3 d : Checked Whole) → any_wide (fraction c0 c1 c2 c3 d).written ≡ false
    → (any_wide c0.written ≡ false) × (any_wide c1.written ≡ false) × (any_wide c2.written ≡ false) × (any_wide c3.written ≡ false) × (any_wide d.written ≡ false)
unfolding fraction
fraction_parts c0 c1 c2 c3 d e =
    let h0 = then_narrow c0 _ e in
    let h1 = then_narrow c1 _ h0.1 in
    let h2 = then_narrow c2 _ h1.1 in
    let h3 = then_narrow c3 _ h2.1 in
    (h0.0, h1.0, h2.0, h3.0, (then_narrow d _ h3.1).0)

fraction_value : (c0 c1 c2 c3 d : Checked Whole) → (fraction c0 c1 c2 c3 d).value ≡ record { d = d.value; a0 = c0.value; a1 = c1.value; a2 = c2.value; a3 = c3.value }
unfolding fraction then
fraction_value c0 c1 c2 c3 d = refl

fraction_narrow : (c0 c1 c2 c3 d : Checked Whole) → IsKept c0 → IsKept c1 → IsKept c2 → IsKept c3 → IsKept d → any_wide (fraction c0 c1 c2 c3 d).written ≡ false → IsNarrow4 (fraction c0 c1 c2 c3 d).value
fraction_narrow c0 c1 c2 c3 d k0 k1 k2 k3 kd e =
    let h = fraction_parts c0 c1 c2 c3 d e in
    subst IsNarrow4 (sym (fraction_value c0 c1 c2 c3 d)) (record { narrow0 = k0 h.0; narrow1 = k1 h.1; narrow2 = k2 h.2; narrow3 = k3 h.3; narrow = kd h.4 })

value0 : (a b : Fraction8) → (dot (a.c0 ∷ []) (b.c0 ∷ [])).value.n ≡ s0 whole (eight_of a) (eight_of b)
unfolding dot_from then
value0 a b = cc (add_zeroℤ (a.c0.n *ℤ b.c0.n))

value1 : (a b : Fraction8) → (dot (a.c0 ∷ a.c1 ∷ []) (b.c1 ∷ b.c0 ∷ [])).value.n ≡ s1 whole (eight_of a) (eight_of b)
unfolding dot_from then
value1 a b = cc (add_zeroℤ (a.c0.n *ℤ b.c1.n))

value2 : (a b : Fraction8) → (dot (a.c0 ∷ a.c1 ∷ a.c2 ∷ []) (b.c2 ∷ b.c1 ∷ b.c0 ∷ [])).value.n ≡ s2 whole (eight_of a) (eight_of b)
unfolding dot_from then
value2 a b = cc (add_zeroℤ (a.c0.n *ℤ b.c2.n))

value3 : (a b : Fraction8) → (dot (a.c0 ∷ a.c1 ∷ a.c2 ∷ a.c3 ∷ []) (b.c3 ∷ b.c2 ∷ b.c1 ∷ b.c0 ∷ [])).value.n ≡ s3 whole (eight_of a) (eight_of b)
unfolding dot_from then
value3 a b = cc (add_zeroℤ (a.c0.n *ℤ b.c3.n))

value4 : (a b : Fraction8) → (dot (a.c0 ∷ a.c1 ∷ a.c2 ∷ a.c3 ∷ a.c4 ∷ []) (b.c4 ∷ b.c3 ∷ b.c2 ∷ b.c1 ∷ b.c0 ∷ [])).value.n ≡ s4 whole (eight_of a) (eight_of b)
unfolding dot_from then
value4 a b = cc (add_zeroℤ (a.c0.n *ℤ b.c4.n))

value5 : (a b : Fraction8) → (dot (a.c0 ∷ a.c1 ∷ a.c2 ∷ a.c3 ∷ a.c4 ∷ a.c5 ∷ []) (b.c5 ∷ b.c4 ∷ b.c3 ∷ b.c2 ∷ b.c1 ∷ b.c0 ∷ [])).value.n ≡ s5 whole (eight_of a) (eight_of b)
unfolding dot_from then
value5 a b = cc (add_zeroℤ (a.c0.n *ℤ b.c5.n))

value6 : (a b : Fraction8) → (dot (a.c0 ∷ a.c1 ∷ a.c2 ∷ a.c3 ∷ a.c4 ∷ a.c5 ∷ a.c6 ∷ []) (b.c6 ∷ b.c5 ∷ b.c4 ∷ b.c3 ∷ b.c2 ∷ b.c1 ∷ b.c0 ∷ [])).value.n ≡ s6 whole (eight_of a) (eight_of b)
unfolding dot_from then
value6 a b = cc (add_zeroℤ (a.c0.n *ℤ b.c6.n))

value7 : (a b : Fraction8) → (dot (a.c0 ∷ a.c1 ∷ a.c2 ∷ a.c3 ∷ a.c4 ∷ a.c5 ∷ a.c6 ∷ a.c7 ∷ []) (b.c7 ∷ b.c6 ∷ b.c5 ∷ b.c4 ∷ b.c3 ∷ b.c2 ∷ b.c1 ∷ b.c0 ∷ [])).value.n ≡ s7 whole (eight_of a) (eight_of b)
unfolding dot_from then
value7 a b = cc (add_zeroℤ (a.c0.n *ℤ b.c7.n))

value8 : (a b : Fraction8) → (dot (a.c1 ∷ a.c2 ∷ a.c3 ∷ a.c4 ∷ a.c5 ∷ a.c6 ∷ a.c7 ∷ []) (b.c7 ∷ b.c6 ∷ b.c5 ∷ b.c4 ∷ b.c3 ∷ b.c2 ∷ b.c1 ∷ [])).value.n ≡ s8 whole (eight_of a) (eight_of b)
unfolding dot_from then
value8 a b = cc (add_zeroℤ (a.c1.n *ℤ b.c7.n))

value9 : (a b : Fraction8) → (dot (a.c2 ∷ a.c3 ∷ a.c4 ∷ a.c5 ∷ a.c6 ∷ a.c7 ∷ []) (b.c7 ∷ b.c6 ∷ b.c5 ∷ b.c4 ∷ b.c3 ∷ b.c2 ∷ [])).value.n ≡ s9 whole (eight_of a) (eight_of b)
unfolding dot_from then
value9 a b = cc (add_zeroℤ (a.c2.n *ℤ b.c7.n))

value10 : (a b : Fraction8) → (dot (a.c3 ∷ a.c4 ∷ a.c5 ∷ a.c6 ∷ a.c7 ∷ []) (b.c7 ∷ b.c6 ∷ b.c5 ∷ b.c4 ∷ b.c3 ∷ [])).value.n ≡ s10 whole (eight_of a) (eight_of b)
unfolding dot_from then
value10 a b = cc (add_zeroℤ (a.c3.n *ℤ b.c7.n))

value11 : (a b : Fraction8) → (dot (a.c4 ∷ a.c5 ∷ a.c6 ∷ a.c7 ∷ []) (b.c7 ∷ b.c6 ∷ b.c5 ∷ b.c4 ∷ [])).value.n ≡ s11 whole (eight_of a) (eight_of b)
unfolding dot_from then
value11 a b = cc (add_zeroℤ (a.c4.n *ℤ b.c7.n))

value12 : (a b : Fraction8) → (dot (a.c5 ∷ a.c6 ∷ a.c7 ∷ []) (b.c7 ∷ b.c6 ∷ b.c5 ∷ [])).value.n ≡ s12 whole (eight_of a) (eight_of b)
unfolding dot_from then
value12 a b = cc (add_zeroℤ (a.c5.n *ℤ b.c7.n))

value13 : (a b : Fraction8) → (dot (a.c6 ∷ a.c7 ∷ []) (b.c7 ∷ b.c6 ∷ [])).value.n ≡ s13 whole (eight_of a) (eight_of b)
unfolding dot_from then
value13 a b = cc (add_zeroℤ (a.c6.n *ℤ b.c7.n))

value14 : (a b : Fraction8) → (dot (a.c7 ∷ []) (b.c7 ∷ [])).value.n ≡ s14 whole (eight_of a) (eight_of b)
unfolding dot_from then
value14 a b = cc (add_zeroℤ (a.c7.n *ℤ b.c7.n))

less : (s x y : ℤ) → pos 0 +ℤ pos 1 *ℤ s +ℤ negsuc 0 *ℤ x +ℤ negsuc 0 *ℤ y ≡ s +ℤ neg_ℤ x +ℤ neg_ℤ y
less s x y = omega (arith, ints)

less_two_value : (xs ys : List Whole) (x y : Whole) → (less_two xs ys x y).value.n ≡ (dot xs ys).value.n +ℤ neg_ℤ x.n +ℤ neg_ℤ y.n
unfolding less_two dot_from then
less_two_value xs ys x y = less (dot xs ys).value.n x.n y.n

more : (s x : ℤ) → pos 0 +ℤ pos 1 *ℤ s +ℤ pos 1 *ℤ x ≡ s +ℤ x
more s x = omega (arith, ints)

and_value : (xs ys : List Whole) (x : Whole) → (and_one xs ys (num (pos 1)) x).value.n ≡ (dot xs ys).value.n +ℤ x.n
unfolding and_one dot_from then
and_value xs ys x = more (dot xs ys).value.n x.n

fewer : (s x : ℤ) → pos 0 +ℤ pos 1 *ℤ s +ℤ negsuc 0 *ℤ x ≡ s +ℤ neg_ℤ x
fewer s x = omega (arith, ints)

less_value : (xs ys : List Whole) (x : Whole) → (and_one xs ys (num (negsuc 0)) x).value.n ≡ (dot xs ys).value.n +ℤ neg_ℤ x.n
unfolding and_one dot_from then
less_value xs ys x = fewer (dot xs ys).value.n x.n

-- the sums of high degree
record IsHigh (a b : Fraction8) (h : High) : Type 0 where
  is8 : h.s8.n ≡ s8 whole (eight_of a) (eight_of b)
  is9 : h.s9.n ≡ s9 whole (eight_of a) (eight_of b)
  is10 : h.s10.n ≡ s10 whole (eight_of a) (eight_of b)
  is11 : h.s11.n ≡ s11 whole (eight_of a) (eight_of b)
  is12 : h.s12.n ≡ s12 whole (eight_of a) (eight_of b)
  is13 : h.s13.n ≡ s13 whole (eight_of a) (eight_of b)
  is14 : h.s14.n ≡ s14 whole (eight_of a) (eight_of b)

high_value : (a b : Fraction8) → IsHigh a b (high_sums a b).value
unfolding high_sums then
high_value a b = record { is8 = value8 a b; is9 = value9 a b; is10 = value10 a b; is11 = value11 a b; is12 = value12 a b; is13 = value13 a b; is14 = value14 a b }

low_value : (a b : Fraction8) (h : High) → IsHigh a b h → (numerators8 (low a b h).value ≡ list8 (mul8 whole (eight_of a) (eight_of b))) × ((low a b h).value.d.n ≡ a.d.n *ℤ b.d.n)
unfolding low mul8
low_value a b h k =
    let c0 = less_two_value (a.c0 ∷ []) (b.c0 ∷ []) h.s8 h.s12 ∙ (λ i. value0 a b i +ℤ neg_ℤ (k.is8 i) +ℤ neg_ℤ (k.is12 i)) in
    let c1 = less_two_value (a.c0 ∷ a.c1 ∷ []) (b.c1 ∷ b.c0 ∷ []) h.s9 h.s13 ∙ (λ i. value1 a b i +ℤ neg_ℤ (k.is9 i) +ℤ neg_ℤ (k.is13 i)) in
    let c2 = less_two_value (a.c0 ∷ a.c1 ∷ a.c2 ∷ []) (b.c2 ∷ b.c1 ∷ b.c0 ∷ []) h.s10 h.s14 ∙ (λ i. value2 a b i +ℤ neg_ℤ (k.is10 i) +ℤ neg_ℤ (k.is14 i)) in
    let c3 = less_value (a.c0 ∷ a.c1 ∷ a.c2 ∷ a.c3 ∷ []) (b.c3 ∷ b.c2 ∷ b.c1 ∷ b.c0 ∷ []) h.s11 ∙ (λ i. value3 a b i +ℤ neg_ℤ (k.is11 i)) in
    let c4 = and_value (a.c0 ∷ a.c1 ∷ a.c2 ∷ a.c3 ∷ a.c4 ∷ []) (b.c4 ∷ b.c3 ∷ b.c2 ∷ b.c1 ∷ b.c0 ∷ []) h.s8 ∙ (λ i. value4 a b i +ℤ k.is8 i) in
    let c5 = and_value (a.c0 ∷ a.c1 ∷ a.c2 ∷ a.c3 ∷ a.c4 ∷ a.c5 ∷ []) (b.c5 ∷ b.c4 ∷ b.c3 ∷ b.c2 ∷ b.c1 ∷ b.c0 ∷ []) h.s9 ∙ (λ i. value5 a b i +ℤ k.is9 i) in
    let c6 = and_value (a.c0 ∷ a.c1 ∷ a.c2 ∷ a.c3 ∷ a.c4 ∷ a.c5 ∷ a.c6 ∷ []) (b.c6 ∷ b.c5 ∷ b.c4 ∷ b.c3 ∷ b.c2 ∷ b.c1 ∷ b.c0 ∷ []) h.s10 ∙ (λ i. value6 a b i +ℤ k.is10 i) in
    let c7 = and_value (a.c0 ∷ a.c1 ∷ a.c2 ∷ a.c3 ∷ a.c4 ∷ a.c5 ∷ a.c6 ∷ a.c7 ∷ []) (b.c7 ∷ b.c6 ∷ b.c5 ∷ b.c4 ∷ b.c3 ∷ b.c2 ∷ b.c1 ∷ b.c0 ∷ []) h.s11 ∙ (λ i. value7 a b i +ℤ k.is11 i) in
    let v = fraction8_value
    (less_two (a.c0 ∷ []) (b.c0 ∷ []) h.s8 h.s12)
    (less_two (a.c0 ∷ a.c1 ∷ []) (b.c1 ∷ b.c0 ∷ []) h.s9 h.s13)
    (less_two (a.c0 ∷ a.c1 ∷ a.c2 ∷ []) (b.c2 ∷ b.c1 ∷ b.c0 ∷ []) h.s10 h.s14)
    (and_one (a.c0 ∷ a.c1 ∷ a.c2 ∷ a.c3 ∷ []) (b.c3 ∷ b.c2 ∷ b.c1 ∷ b.c0 ∷ []) (num (negsuc 0)) h.s11)
    (and_one (a.c0 ∷ a.c1 ∷ a.c2 ∷ a.c3 ∷ a.c4 ∷ []) (b.c4 ∷ b.c3 ∷ b.c2 ∷ b.c1 ∷ b.c0 ∷ []) (num (pos 1)) h.s8)
    (and_one (a.c0 ∷ a.c1 ∷ a.c2 ∷ a.c3 ∷ a.c4 ∷ a.c5 ∷ []) (b.c5 ∷ b.c4 ∷ b.c3 ∷ b.c2 ∷ b.c1 ∷ b.c0 ∷ []) (num (pos 1)) h.s9)
    (and_one (a.c0 ∷ a.c1 ∷ a.c2 ∷ a.c3 ∷ a.c4 ∷ a.c5 ∷ a.c6 ∷ []) (b.c6 ∷ b.c5 ∷ b.c4 ∷ b.c3 ∷ b.c2 ∷ b.c1 ∷ b.c0 ∷ []) (num (pos 1)) h.s10)
    (and_one (a.c0 ∷ a.c1 ∷ a.c2 ∷ a.c3 ∷ a.c4 ∷ a.c5 ∷ a.c6 ∷ a.c7 ∷ []) (b.c7 ∷ b.c6 ∷ b.c5 ∷ b.c4 ∷ b.c3 ∷ b.c2 ∷ b.c1 ∷ b.c0 ∷ []) (num (pos 1)) h.s11)
    (times a.d b.d) in (
      ap numerators8 v ∙ (λ i. c0 i ∷ c1 i ∷ c2 i ∷ c3 i ∷ c4 i ∷ c5 i ∷ c6 i ∷ c7 i ∷ []),
      ap (λ (r : Fraction8). r.d.n) v,
    )

pub product_value : (a b : Fraction8) → (numerators8 (product a b).value ≡ list8 (mul8 whole (eight_of a) (eight_of b))) × ((product a b).value.d.n ≡ a.d.n *ℤ b.d.n)
unfolding product then
product_value a b = low_value a b (high_sums a b).value (high_value a b)

low_narrow : (a b : Fraction8) (h : High) → any_wide (low a b h).written ≡ false → IsNarrow8 (low a b h).value
unfolding low
low_narrow a b h e =
    fraction8_narrow
    (less_two (a.c0 ∷ []) (b.c0 ∷ []) h.s8 h.s12)
    (less_two (a.c0 ∷ a.c1 ∷ []) (b.c1 ∷ b.c0 ∷ []) h.s9 h.s13)
    (less_two (a.c0 ∷ a.c1 ∷ a.c2 ∷ []) (b.c2 ∷ b.c1 ∷ b.c0 ∷ []) h.s10 h.s14)
    (and_one (a.c0 ∷ a.c1 ∷ a.c2 ∷ a.c3 ∷ []) (b.c3 ∷ b.c2 ∷ b.c1 ∷ b.c0 ∷ []) (num (negsuc 0)) h.s11)
    (and_one (a.c0 ∷ a.c1 ∷ a.c2 ∷ a.c3 ∷ a.c4 ∷ []) (b.c4 ∷ b.c3 ∷ b.c2 ∷ b.c1 ∷ b.c0 ∷ []) (num (pos 1)) h.s8)
    (and_one (a.c0 ∷ a.c1 ∷ a.c2 ∷ a.c3 ∷ a.c4 ∷ a.c5 ∷ []) (b.c5 ∷ b.c4 ∷ b.c3 ∷ b.c2 ∷ b.c1 ∷ b.c0 ∷ []) (num (pos 1)) h.s9)
    (and_one (a.c0 ∷ a.c1 ∷ a.c2 ∷ a.c3 ∷ a.c4 ∷ a.c5 ∷ a.c6 ∷ []) (b.c6 ∷ b.c5 ∷ b.c4 ∷ b.c3 ∷ b.c2 ∷ b.c1 ∷ b.c0 ∷ []) (num (pos 1)) h.s10)
    (and_one (a.c0 ∷ a.c1 ∷ a.c2 ∷ a.c3 ∷ a.c4 ∷ a.c5 ∷ a.c6 ∷ a.c7 ∷ []) (b.c7 ∷ b.c6 ∷ b.c5 ∷ b.c4 ∷ b.c3 ∷ b.c2 ∷ b.c1 ∷ b.c0 ∷ []) (num (pos 1)) h.s11)
    (times a.d b.d)
    (less_two_kept (a.c0 ∷ []) (b.c0 ∷ []) h.s8 h.s12)
    (less_two_kept (a.c0 ∷ a.c1 ∷ []) (b.c1 ∷ b.c0 ∷ []) h.s9 h.s13)
    (less_two_kept (a.c0 ∷ a.c1 ∷ a.c2 ∷ []) (b.c2 ∷ b.c1 ∷ b.c0 ∷ []) h.s10 h.s14)
    (and_one_kept (a.c0 ∷ a.c1 ∷ a.c2 ∷ a.c3 ∷ []) (b.c3 ∷ b.c2 ∷ b.c1 ∷ b.c0 ∷ []) (num (negsuc 0)) h.s11)
    (and_one_kept (a.c0 ∷ a.c1 ∷ a.c2 ∷ a.c3 ∷ a.c4 ∷ []) (b.c4 ∷ b.c3 ∷ b.c2 ∷ b.c1 ∷ b.c0 ∷ []) (num (pos 1)) h.s8)
    (and_one_kept (a.c0 ∷ a.c1 ∷ a.c2 ∷ a.c3 ∷ a.c4 ∷ a.c5 ∷ []) (b.c5 ∷ b.c4 ∷ b.c3 ∷ b.c2 ∷ b.c1 ∷ b.c0 ∷ []) (num (pos 1)) h.s9)
    (and_one_kept (a.c0 ∷ a.c1 ∷ a.c2 ∷ a.c3 ∷ a.c4 ∷ a.c5 ∷ a.c6 ∷ []) (b.c6 ∷ b.c5 ∷ b.c4 ∷ b.c3 ∷ b.c2 ∷ b.c1 ∷ b.c0 ∷ []) (num (pos 1)) h.s10)
    (and_one_kept (a.c0 ∷ a.c1 ∷ a.c2 ∷ a.c3 ∷ a.c4 ∷ a.c5 ∷ a.c6 ∷ a.c7 ∷ []) (b.c7 ∷ b.c6 ∷ b.c5 ∷ b.c4 ∷ b.c3 ∷ b.c2 ∷ b.c1 ∷ b.c0 ∷ []) (num (pos 1)) h.s11)
    (times_kept a.d b.d) e

pub product_narrow : (a b : Fraction8) → any_wide (product a b).written ≡ false → IsNarrow8 (product a b).value
unfolding product then
product_narrow a b e = low_narrow a b (high_sums a b).value (then_narrow (high_sums a b) (λ h. low a b h) e).1

joined_value : (x p y q : Whole) → (joined x p y q).value.n ≡ p.n *ℤ x.n +ℤ q.n *ℤ y.n
unfolding dot_from then
joined_value x p y q =
    let e : x.n *ℤ p.n ≡ p.n *ℤ x.n = omega (arith, ints) in
    let f : y.n *ℤ q.n ≡ q.n *ℤ y.n = omega (arith, ints) in
    ap (λ w. w +ℤ y.n *ℤ q.n) (add_zeroℤ (x.n *ℤ p.n)) ∙ (λ i. e i +ℤ f i)

pub sum_value : (a : Fraction8) (q : Whole) (b : Fraction8) (p : Whole) → let c : ℤ → ℤ → ℤ = λ x y. q.n *ℤ x +ℤ p.n *ℤ y in
    (numerators8 (sum_over a q b p).value ≡ c a.c0.n b.c0.n ∷ c a.c1.n b.c1.n ∷ c a.c2.n b.c2.n ∷ c a.c3.n b.c3.n ∷ c a.c4.n b.c4.n ∷ c a.c5.n b.c5.n ∷ c a.c6.n b.c6.n ∷ c a.c7.n b.c7.n ∷ []) × ((sum_over a q b p).value.d.n ≡ a.d.n *ℤ q.n)
unfolding sum_over
sum_value a q b p =
    let v = fraction8_value (joined a.c0 q b.c0 p) (joined a.c1 q b.c1 p) (joined a.c2 q b.c2 p) (joined a.c3 q b.c3 p) (joined a.c4 q b.c4 p) (joined a.c5 q b.c5 p) (joined a.c6 q b.c6 p) (joined a.c7 q b.c7 p) (times a.d q) in (
      ap numerators8 v ∙ (λ i. joined_value a.c0 q b.c0 p i ∷ joined_value a.c1 q b.c1 p i ∷ joined_value a.c2 q b.c2 p i ∷ joined_value a.c3 q b.c3 p i ∷ joined_value a.c4 q b.c4 p i ∷ joined_value a.c5 q b.c5 p i ∷ joined_value a.c6 q b.c6 p i ∷ joined_value a.c7 q b.c7 p i ∷ []),
      ap (λ (r : Fraction8). r.d.n) v,
    )

joined_kept : (x p y q : Whole) → IsKept (joined x p y q)
joined_kept x p y q = dot_kept (x ∷ y ∷ []) (p ∷ q ∷ [])

pub sum_narrow : (a : Fraction8) (q : Whole) (b : Fraction8) (p : Whole) → any_wide (sum_over a q b p).written ≡ false → IsNarrow8 (sum_over a q b p).value
unfolding sum_over
sum_narrow a q b p e =
    fraction8_narrow (joined a.c0 q b.c0 p) (joined a.c1 q b.c1 p) (joined a.c2 q b.c2 p) (joined a.c3 q b.c3 p) (joined a.c4 q b.c4 p) (joined a.c5 q b.c5 p) (joined a.c6 q b.c6 p) (joined a.c7 q b.c7 p) (times a.d q)
    (joined_kept a.c0 q b.c0 p) (joined_kept a.c1 q b.c1 p) (joined_kept a.c2 q b.c2 p) (joined_kept a.c3 q b.c3 p) (joined_kept a.c4 q b.c4 p) (joined_kept a.c5 q b.c5 p) (joined_kept a.c6 q b.c6 p) (joined_kept a.c7 q b.c7 p) (times_kept a.d q) e

minus_one : (x : ℤ) → negsuc 0 *ℤ x ≡ neg_ℤ x
minus_one x = omega (arith, ints)

both_signs : (x y : ℤ) → pos 0 +ℤ negsuc 0 *ℤ x +ℤ negsuc 0 *ℤ y ≡ neg_ℤ x +ℤ neg_ℤ y
both_signs x y = omega (arith, ints)

pub conjugate_value : (a : Fraction8) → (numerators8 (conjugate a).value ≡ list8 (conj8 whole (eight_of a))) × ((conjugate a).value.d ≡ a.d)
unfolding conjugate dot_from then conj8
conjugate_value a = (
  λ i. (a.c0.n +ℤ a.c4.n) ∷ a.c3.n ∷ a.c2.n ∷ a.c1.n ∷ minus_one a.c4.n i ∷ both_signs a.c3.n a.c7.n i ∷ both_signs a.c2.n a.c6.n i ∷ both_signs a.c1.n a.c5.n i ∷ [],
  refl,
)

conjugate_parts : (a : Fraction8) → any_wide (conjugate a).written ≡ false
    → (any_wide (plus a.c0 a.c4).written ≡ false) × (any_wide (times (num (negsuc 0)) a.c4).written ≡ false) × (any_wide (signed (negsuc 0) a.c3 (negsuc 0) a.c7).written ≡ false)
    × (any_wide (signed (negsuc 0) a.c2 (negsuc 0) a.c6).written ≡ false) × (any_wide (signed (negsuc 0) a.c1 (negsuc 0) a.c5).written ≡ false)
unfolding conjugate
conjugate_parts a e =
    let h0 = then_narrow (plus a.c0 a.c4) _ e in
    let h4 = then_narrow (times (num (negsuc 0)) a.c4) _ h0.1 in
    let h5 = then_narrow (signed (negsuc 0) a.c3 (negsuc 0) a.c7) _ h4.1 in
    let h6 = then_narrow (signed (negsuc 0) a.c2 (negsuc 0) a.c6) _ h5.1 in
    let h7 = then_narrow (signed (negsuc 0) a.c1 (negsuc 0) a.c5) _ h6.1 in
    (h0.0, h4.0, h5.0, h6.0, h7.0)

pub conjugate_narrow : (a : Fraction8) → IsNarrow8 a → any_wide (conjugate a).written ≡ false → IsNarrow8 (conjugate a).value
unfolding conjugate then
conjugate_narrow a k e =
    let h = conjugate_parts a e in
    record {
      narrow0 = plus_kept a.c0 a.c4 h.0;
      narrow1 = k.narrow3;
      narrow2 = k.narrow2;
      narrow3 = k.narrow1;
      narrow4 = times_kept (num (negsuc 0)) a.c4 h.1;
      narrow5 = dot_kept (num (negsuc 0) ∷ num (negsuc 0) ∷ []) (a.c3 ∷ a.c7 ∷ []) h.2;
      narrow6 = dot_kept (num (negsuc 0) ∷ num (negsuc 0) ∷ []) (a.c2 ∷ a.c6 ∷ []) h.3;
      narrow7 = dot_kept (num (negsuc 0) ∷ num (negsuc 0) ∷ []) (a.c1 ∷ a.c5 ∷ []) h.4;
      narrow = k.narrow;
    }

first_real : (x y : ℤ) → pos 0 +ℤ pos 4 *ℤ x +ℤ pos 2 *ℤ y ≡ pos 4 *ℤ x +ℤ pos 2 *ℤ y
first_real x y = omega (arith, ints)

second_real : (x y z w : ℤ) → pos 0 +ℤ pos 1 *ℤ x +ℤ pos 2 *ℤ y +ℤ negsuc 0 *ℤ z +ℤ pos 1 *ℤ w ≡ x +ℤ pos 2 *ℤ y +ℤ neg_ℤ z +ℤ w
second_real x y z w = omega (arith, ints)

fourth_real : (x y z : ℤ) → pos 0 +ℤ pos 1 *ℤ x +ℤ pos 1 *ℤ y +ℤ negsuc 0 *ℤ z ≡ x +ℤ y +ℤ neg_ℤ z
fourth_real x y z = omega (arith, ints)

first_imaginary : (x y : ℤ) → pos 0 +ℤ pos 2 *ℤ x +ℤ pos 4 *ℤ y ≡ pos 2 *ℤ x +ℤ pos 4 *ℤ y
first_imaginary x y = omega (arith, ints)

second_imaginary : (x y z w : ℤ) → pos 0 +ℤ negsuc 0 *ℤ x +ℤ pos 2 *ℤ y +ℤ pos 1 *ℤ z +ℤ pos 1 *ℤ w ≡ neg_ℤ x +ℤ pos 2 *ℤ y +ℤ z +ℤ w
second_imaginary x y z w = omega (arith, ints)

fourth_imaginary : (x y z : ℤ) → pos 0 +ℤ pos 1 *ℤ x +ℤ pos 1 *ℤ y +ℤ pos 1 *ℤ z ≡ x +ℤ y +ℤ z
fourth_imaginary x y z = omega (arith, ints)

pub real_value : (a : Fraction8) → (numerators4 (real a).value ≡ list4 (re8 whole (eight_of a))) × ((real a).value.d.n ≡ pos 4 *ℤ a.d.n)
unfolding real fraction dot_from then re8
real_value a = (
  λ i. first_real a.c0.n a.c4.n i ∷ second_real a.c1.n a.c3.n a.c5.n a.c7.n i ∷ (pos 2 *ℤ a.c2.n) ∷ fourth_real a.c1.n a.c5.n a.c7.n i ∷ [],
  refl,
)

pub imaginary_value : (a : Fraction8) → (numerators4 (imaginary a).value ≡ list4 (im8 whole (eight_of a))) × ((imaginary a).value.d.n ≡ pos 4 *ℤ a.d.n)
unfolding imaginary fraction dot_from then im8
imaginary_value a = (
  λ i. first_imaginary a.c2.n a.c6.n i ∷ second_imaginary a.c1.n a.c3.n a.c5.n a.c7.n i ∷ (pos 2 *ℤ a.c4.n) ∷ fourth_imaginary a.c1.n a.c5.n a.c7.n i ∷ [],
  refl,
)

pub real_narrow : (a : Fraction8) → any_wide (real a).written ≡ false → IsNarrow4 (real a).value
unfolding real
real_narrow a e =
    let f = num (pos 1) ∷ num (pos 2) ∷ num (negsuc 0) ∷ num (pos 1) ∷ [] in
    let g = num (pos 1) ∷ num (pos 1) ∷ num (negsuc 0) ∷ [] in
    fraction_narrow (signed (pos 4) a.c0 (pos 2) a.c4) (dot f (a.c1 ∷ a.c3 ∷ a.c5 ∷ a.c7 ∷ [])) (times (num (pos 2)) a.c2) (dot g (a.c1 ∷ a.c5 ∷ a.c7 ∷ [])) (times (num (pos 4)) a.d)
    (dot_kept (num (pos 4) ∷ num (pos 2) ∷ []) (a.c0 ∷ a.c4 ∷ [])) (dot_kept f (a.c1 ∷ a.c3 ∷ a.c5 ∷ a.c7 ∷ [])) (times_kept (num (pos 2)) a.c2) (dot_kept g (a.c1 ∷ a.c5 ∷ a.c7 ∷ []))
    (times_kept (num (pos 4)) a.d) e

pub imaginary_narrow : (a : Fraction8) → any_wide (imaginary a).written ≡ false → IsNarrow4 (imaginary a).value
unfolding imaginary
imaginary_narrow a e =
    let f = num (negsuc 0) ∷ num (pos 2) ∷ num (pos 1) ∷ num (pos 1) ∷ [] in
    let g = num (pos 1) ∷ num (pos 1) ∷ num (pos 1) ∷ [] in
    fraction_narrow (signed (pos 2) a.c2 (pos 4) a.c6) (dot f (a.c1 ∷ a.c3 ∷ a.c5 ∷ a.c7 ∷ [])) (times (num (pos 2)) a.c4) (dot g (a.c1 ∷ a.c5 ∷ a.c7 ∷ [])) (times (num (pos 4)) a.d)
    (dot_kept (num (pos 2) ∷ num (pos 4) ∷ []) (a.c2 ∷ a.c6 ∷ [])) (dot_kept f (a.c1 ∷ a.c3 ∷ a.c5 ∷ a.c7 ∷ [])) (times_kept (num (pos 2)) a.c4) (dot_kept g (a.c1 ∷ a.c5 ∷ a.c7 ∷ []))
    (times_kept (num (pos 4)) a.d) e

difference : (x y : ℤ) → pos 0 +ℤ negsuc 0 *ℤ x +ℤ pos 1 *ℤ y ≡ neg_ℤ x +ℤ y
difference x y = omega (arith, ints)

minus_two : (x : ℤ) → negsuc 1 *ℤ x ≡ neg_ℤ (pos 2 *ℤ x)
minus_two x = omega (arith, ints)

pub from_four_value : (a : Fraction4) → (numerators8 (from_four a).value ≡ list8 (real8 whole (four_of a))) × ((from_four a).value.d ≡ a.d)
unfolding from_four dot_from then real8
from_four_value a = (
  λ i. a.a0.n ∷ (a.a1.n +ℤ a.a3.n) ∷ (pos 2 *ℤ a.a2.n) ∷ (a.a1.n +ℤ a.a3.n) ∷ pos 0 ∷ difference a.a1.n a.a3.n i ∷ minus_one a.a2.n i ∷ minus_two a.a3.n i ∷ [],
  refl,
)

from_four_parts : (a : Fraction4) → any_wide (from_four a).written ≡ false
    → (any_wide (plus a.a1 a.a3).written ≡ false) × (any_wide (times (num (pos 2)) a.a2).written ≡ false) × (any_wide (signed (negsuc 0) a.a1 (pos 1) a.a3).written ≡ false)
    × (any_wide (times (num (negsuc 0)) a.a2).written ≡ false) × (any_wide (times (num (negsuc 1)) a.a3).written ≡ false)
unfolding from_four
from_four_parts a e =
    let h1 = then_narrow (plus a.a1 a.a3) _ e in
    let h2 = then_narrow (times (num (pos 2)) a.a2) _ h1.1 in
    let h5 = then_narrow (signed (negsuc 0) a.a1 (pos 1) a.a3) _ h2.1 in
    let h6 = then_narrow (times (num (negsuc 0)) a.a2) _ h5.1 in
    let h7 = then_narrow (times (num (negsuc 1)) a.a3) _ h6.1 in
    (h1.0, h2.0, h5.0, h6.0, h7.0)

pub from_four_narrow : (a : Fraction4) → IsNarrow4 a → any_wide (from_four a).written ≡ false → IsNarrow8 (from_four a).value
unfolding from_four then
from_four_narrow a k e =
    let h = from_four_parts a e in
    record {
      narrow0 = k.narrow0;
      narrow1 = plus_kept a.a1 a.a3 h.0;
      narrow2 = times_kept (num (pos 2)) a.a2 h.1;
      narrow3 = plus_kept a.a1 a.a3 h.0;
      narrow4 = below_wide (pos 0) (lit≤ tt);
      narrow5 = dot_kept (num (negsuc 0) ∷ num (pos 1) ∷ []) (a.a1 ∷ a.a3 ∷ []) h.2;
      narrow6 = times_kept (num (negsuc 0)) a.a2 h.3;
      narrow7 = times_kept (num (negsuc 1)) a.a3 h.4;
      narrow = k.narrow;
    }
