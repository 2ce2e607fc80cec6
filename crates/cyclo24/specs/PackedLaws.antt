-- What the formulas on packed numbers give.
--
-- within: packed numbers within 64 bits; widened_narrow: and in 128
-- product_low, product_lowest: of a product; sum_over_one: of a sum over 1
-- lowest_same: for the same numbers
-- is_one-one: by the test
-- three_zeros, ratio_same, ratio_packed: a rational number is its first numerator over its denominator
use Rattle.std.proofs.Common.{◌≡◌, ◌<◌, ◌≤◌, ◌^◌, ◌/◌, ℕ, refl, sym, ap, ◌∙◌, subst, arith, ℤ, pos, neg_ℤ, ◌+ℤ◌, ◌*ℤ◌, List, [], ◌∷◌, Bool, true, false, le_trans, lit≤}
use Rattle.std.proofs.lemmas.Int.{ints}
use Rattle.std.specs.Int.RustNames.{unsigned_abs}
use Rattle.std.specs.List.{list_all}
use Rattle.std.specs.Ordering.{int_eq}
use Rattle.std.specs.Cmp.{signed_Decides}
use Rattle.cyclo24.specs.declared.packed.Packed.{Packed}
use Rattle.cyclo24.specs.declared.packed4.Packed4.{Packed4}
use Rattle.cyclo24.specs.declared.ratio.PackedRatio.{PackedRatio}
use Rattle.cyclo24.specs.declared.short4.Short4.{Short4}
use Rattle.cyclo24.specs.declared.small.Small.{Small}
use Rattle.cyclo24.specs.declared.fraction4.Fraction4.{Fraction4}
use Rattle.cyclo24.specs.BoolLaws.{and_left, and_right}
use Rattle.cyclo24.specs.Gcd.{gcd, quotient, lowest_terms, all_zero}
use Rattle.algebra.specs.Whole.{whole}
use Rattle.cyclo24.specs.Four.{mul4}
use Rattle.cyclo24.specs.FourNorm.{list4}
use Rattle.cyclo24.specs.Listed.{is_positive}
use Rattle.cyclo24.specs.Checked.{is_wide}
use Rattle.cyclo24.specs.CheckedLaws.{below_wide}
use Rattle.cyclo24.specs.Written4.{numbers4, numerators4, IsNarrow4, product, sum}
use Rattle.cyclo24.specs.Written4ValuesLaws.{product_value, sum_value}
use Rattle.cyclo24.specs.Short4.{wide_of, four_of, numerators, IsWithin4, AreWithin4}
use Rattle.cyclo24.specs.Short4Laws.{lowest_over_one}
use Rattle.cyclo24.specs.Lowest4Laws.{product_positive}
use Rattle.cyclo24.specs.Long.{is_short}
use Rattle.cyclo24.specs.LongLaws.{short_below}
use Rattle.cyclo24.specs.Packed4.{unpacked, widened, IsPacked4, IsLowestOf, one}
use Rattle.cyclo24.specs.Ratio.{packed_ratio4}

at_most : (z : ℤ) → unsigned_abs z < 2 ^ 28 → unsigned_abs z ≤ 2 ^ 28
at_most z h = omega (arith, h)

pub within : (r : Packed4) → IsPacked4 r → IsWithin4 (2 ^ 28) (unpacked r)
within r h = record { d = at_most r.d.n h.d; a0 = at_most r.a0.n h.a0; a1 = at_most r.a1.n h.a1; a2 = at_most r.a2.n h.a2; a3 = at_most r.a3.n h.a3 }

narrow : (z : ℤ) → unsigned_abs z < 2 ^ 28 → is_wide z ≡ false
narrow z h = below_wide z (le_trans h (lit≤ tt))

pub widened_narrow : (r : Packed4) (s : Fraction4) → IsPacked4 r → s ≡ widened r → IsNarrow4 s
widened_narrow r s h e =
    subst IsNarrow4 (sym e) (record { narrow0 = narrow r.a0.n h.a0; narrow1 = narrow r.a1.n h.a1; narrow2 = narrow r.a2.n h.a2; narrow3 = narrow r.a3.n h.a3; narrow = narrow r.d.n h.d })

neg_below : (z : ℤ) → unsigned_abs z < 2 ^ 28 → unsigned_abs (neg_ℤ z) < 2 ^ 28
neg_below z h = let e : unsigned_abs (neg_ℤ z) ≡ unsigned_abs z = omega (arith, ints) in omega (arith, e, h)

pub negated_below : (z : ℤ) (p : Packed) → unsigned_abs z < 2 ^ 28 → p ≡ record { n = neg_ℤ z } → unsigned_abs p.n < 2 ^ 28
negated_below z p h e = subst (λ (q : Packed). unsigned_abs q.n < 2 ^ 28) (sym e) (neg_below z h)

-- products

pub product_low : (a b : Packed4) (x y r : Short4) → x ≡ unpacked a → y ≡ unpacked b → is_positive a.d.n ≡ true → is_positive b.d.n ≡ true → r.d ≡ record { n = x.d.n *ℤ y.d.n } → is_positive r.d.n ≡ true
product_low a b x y r hx hy p q e = ap (λ (s : Small). is_positive s.n) e ∙ (λ i. is_positive ((hx i).d.n *ℤ (hy i).d.n)) ∙ product_positive a.d.n b.d.n p q

pub product_lowest : (a b : Packed4) (x y r s : Short4) → x ≡ unpacked a → y ≡ unpacked b → four_of r ≡ mul4 whole (four_of x) (four_of y) → r.d ≡ record { n = x.d.n *ℤ y.d.n }
    → numbers4 (wide_of s) ≡ lowest_terms (numerators r) (unsigned_abs r.d.n) → IsLowestOf (wide_of s) (product (widened a) (widened b)).value
product_lowest a b x y r s hx hy e d l =
    let v = product_value (widened a) (widened b) in
    let n : numerators r ≡ numerators4 (product (widened a) (widened b)).value = ap list4 e ∙ (λ i. list4 (mul4 whole (four_of (hx i)) (four_of (hy i)))) ∙ sym v.0 in
    let low : r.d.n ≡ (product (widened a) (widened b)).value.d.n = ap (λ (z : Small). z.n) d ∙ (λ i. (hx i).d.n *ℤ (hy i).d.n) ∙ sym v.1 in
    l ∙ (λ i. lowest_terms (n i) (unsigned_abs (low i)))

-- sums over 1

gcd_ones : quotient (pos 1) (gcd 1 1) ≡ pos 1
unfolding gcd
gcd_ones = refl

plain : (x y : ℤ) → x +ℤ y ≡ pos 1 *ℤ x +ℤ pos 1 *ℤ (pos 1 *ℤ y)
plain x y = omega (arith, ints)

pub sum_over_one : (a b r : Fraction4) → a.d.n ≡ pos 1 → b.d.n ≡ pos 1 → r.d.n ≡ pos 1 → r.a0.n ≡ a.a0.n +ℤ b.a0.n → r.a1.n ≡ a.a1.n +ℤ b.a1.n → r.a2.n ≡ a.a2.n +ℤ b.a2.n → r.a3.n ≡ a.a3.n +ℤ b.a3.n
    → IsLowestOf r (sum one a b).value
sum_over_one a b r ha hb hr e0 e1 e2 e3 =
    let g = gcd (unsigned_abs a.d.n) (unsigned_abs b.d.n) in
    let q = quotient b.d.n g in let p = quotient a.d.n g in
    let ge : g ≡ gcd 1 1 = λ i. gcd (unsigned_abs (ha i)) (unsigned_abs (hb i)) in
    let qe : q ≡ pos 1 = (λ i. quotient (hb i) (ge i)) ∙ gcd_ones in
    let pe : p ≡ pos 1 = (λ i. quotient (ha i) (ge i)) ∙ gcd_ones in
    let v = sum_value one a (record { n = q }) b (record { n = p }) in
    let part : (x y : ℤ) → x +ℤ y ≡ q *ℤ x +ℤ pos 1 *ℤ (p *ℤ y) = λ x y. plain x y ∙ sym (λ i. qe i *ℤ x +ℤ pos 1 *ℤ (pe i *ℤ y)) in
    let xs = (a.a0.n +ℤ b.a0.n) ∷ (a.a1.n +ℤ b.a1.n) ∷ (a.a2.n +ℤ b.a2.n) ∷ (a.a3.n +ℤ b.a3.n) ∷ [] in
    let n : xs ≡ numerators4 (sum one a b).value = (λ i. part a.a0.n b.a0.n i ∷ part a.a1.n b.a1.n i ∷ part a.a2.n b.a2.n i ∷ part a.a3.n b.a3.n i ∷ []) ∙ sym v.0 in
    let low : pos 1 ≡ (sum one a b).value.d.n = sym (v.1 ∙ (λ i. ha i *ℤ qe i)) in
    lowest_over_one xs (numbers4 r) (pos 1) refl (λ i. e0 i ∷ e1 i ∷ e2 i ∷ e3 i ∷ hr i ∷ []) ∙ (λ i. lowest_terms (n i) (unsigned_abs (low i)))

pub is_one-one : (z : ℤ) (b : Bool) → b ≡ int_eq z (pos 1) → b ≡ true → z ≡ pos 1
is_one-one z b e h = (signed_Decides z (pos 1)).0 (sym e ∙ h)

-- rational numbers

pub lowest_same : (op : Fraction4 → Fraction4 → Fraction4) (r s a b x y : Fraction4) → s ≡ r → x ≡ a → y ≡ b → IsLowestOf r (op x y) → IsLowestOf s (op a b)
lowest_same op r s a b x y e f g h = ap numbers4 e ∙ h ∙ (λ i. lowest_terms (numerators4 (op (f i) (g i))) (unsigned_abs (op (f i) (g i)).d.n))

is_zero : (z : ℤ) → int_eq z (pos 0) ≡ true → z ≡ pos 0
is_zero z h = (signed_Decides z (pos 0)).0 h

pub three_zeros : (x y z : ℤ) → all_zero (x ∷ y ∷ z ∷ []) ≡ true → (x ≡ pos 0) × (y ≡ pos 0) × (z ≡ pos 0)
three_zeros x y z h =
    let k = and_right (int_eq x (pos 0)) (all_zero (y ∷ z ∷ [])) h in (
      is_zero x (and_left (int_eq x (pos 0)) (all_zero (y ∷ z ∷ [])) h),
      is_zero y (and_left (int_eq y (pos 0)) (all_zero (z ∷ [])) k),
      is_zero z (and_left (int_eq z (pos 0)) true (and_right (int_eq y (pos 0)) (all_zero (z ∷ [])) k)),
    )

pub ratio_same : (r : Packed4) (p : PackedRatio) → all_zero (r.a1.n ∷ r.a2.n ∷ r.a3.n ∷ []) ≡ true → p ≡ record { d = r.d; n = r.a0 } → widened (packed_ratio4 p) ≡ widened r
ratio_same r p h e =
    let z = three_zeros r.a1.n r.a2.n r.a3.n h in
    ap (λ (q : PackedRatio). widened (packed_ratio4 q)) e
    ∙ (λ i. record { d = record { n = r.d.n }; a0 = record { n = r.a0.n }; a1 = record { n = sym z.0 i }; a2 = record { n = sym z.1 i }; a3 = record { n = sym z.2 i } })

pub ratio_packed : (r : Packed4) (p : PackedRatio) → IsPacked4 r → p ≡ record { d = r.d; n = r.a0 } → IsPacked4 (packed_ratio4 p)
ratio_packed r p h e = subst (λ (q : PackedRatio). IsPacked4 (packed_ratio4 q)) (sym e) (record { d = h.d; a0 = h.a0; a1 = lit≤ tt; a2 = lit≤ tt; a3 = lit≤ tt })

-- a sum of numbers as they are unpacked
pub added : (r x y : Small) {m n : ℤ} → x ≡ record { n = m } → y ≡ record { n = n } → r ≡ record { n = x.n +ℤ y.n } → r.n ≡ m +ℤ n
added r x y e f g = ap (λ (s : Small). s.n) g ∙ (λ i. (e i).n +ℤ (f i).n)
