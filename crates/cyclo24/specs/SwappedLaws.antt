-- The inverse of a rational number: its denominator over its numerator.
--
-- swapped_inverse: it has the numbers of the inverse
use Rattle.std.proofs.Common.{◌≡◌, ◌≢◌, ◌<◌, ◌*◌, ◌/◌, ℕ, zero, suc, refl, sym, ap, ◌∙◌, subst, arith, rules, ℤ, pos, negsuc, neg_ℤ, ◌*ℤ◌, List, [], ◌∷◌, Bool, true, false}
use Rattle.std.specs.Prelude.{cond, int_lt}
use Rattle.std.specs.Int.RustNames.{unsigned_abs}
use Rattle.std.proofs.Math.Nat.{mul-div_cancel'}
use Rattle.std.proofs.lemmas.Nat.Gcd.{same_from_IsGcd, dvd_refl}
use Rattle.std.proofs.lemmas.Int.{ints}
use Rattle.cyclo24.specs.declared.fraction4.Fraction4.{Fraction4}
use Rattle.cyclo24.specs.Gcd.{gcd, common, lowest_terms, all_zero}
use Rattle.cyclo24.specs.GcdLaws.{gcd_is}
use Rattle.algebra.specs.Whole.{whole}
use Rattle.algebra.specs.WholeLaws.{whole_ring}
use Rattle.cyclo24.specs.Four.{mul4, num4}
use Rattle.cyclo24.specs.FourLaws.{scaled}
use Rattle.cyclo24.specs.FourNorm.{whole4, four, list4}
use Rattle.cyclo24.specs.FourNormLaws.{four_is}
use Rattle.cyclo24.specs.Listed.{is_positive}
use Rattle.cyclo24.specs.ListedLaws.{exact_is, is_exact-true, positive_abs, same_exact}
use Rattle.cyclo24.specs.ExactLaws.{times-is}
use Rattle.cyclo24.specs.ExactK24.{Exact24, k24_laws}
use Rattle.cyclo24.specs.K24Laws.{IsLow, exact_of, low_positive, one24, is_zero24}
use Rattle.cyclo24.specs.FieldLaws.{inverse_unique}
use Rattle.cyclo24.specs.Written4.{numbers4, numerators4, four_of}
use Rattle.cyclo24.specs.Written4Inverse.{upright}
use Rattle.cyclo24.specs.Short4.{rational}
use Rattle.cyclo24.specs.Short4Laws.{common-rational, zero_over}
use Rattle.cyclo24.specs.Lowest4Laws.{times_zero}
use Rattle.cyclo24.specs.PackedLaws.{three_zeros}
use Rattle.cyclo24.specs.Ratio.{swapped}

-- a rational number
abbrev over : ℤ → ℤ → Fraction4
over n d = record { d = record { n = d }; a0 = record { n = n }; a1 = record { n = pos 0 }; a2 = record { n = pos 0 }; a3 = record { n = pos 0 } }

-- what d over z, with the sign of z, is made of
record IsOver (z d : ℤ) (s : Fraction4) : Type 0 where
  low : s.d.n ≡ pos (unsigned_abs z)
  size : unsigned_abs s.a0.n ≡ unsigned_abs d
  product : z *ℤ s.a0.n ≡ pos (unsigned_abs z * unsigned_abs d)
  rational : s ≡ over s.a0.n s.d.n

not_negative : (n : ℕ) → int_lt (pos n) (pos 0) ≡ false
not_negative n = search rules

over_is : (z d : ℤ) → is_positive d ≡ true → IsOver z d (upright (over d z))
over_is (pos n) (pos m) h =
    let c : upright (over (pos m) (pos n)) ≡ over (pos m) (pos n) = ap (λ b. cond b (over (neg_ℤ (pos m)) (neg_ℤ (pos n))) (over (pos m) (pos n))) (not_negative n) in
    subst (IsOver (pos n) (pos m)) (sym c) (record { low = refl; size = refl; product = refl; rational = refl })
over_is (negsuc n) (pos zero) h = absurd (cc)
over_is (negsuc n) (pos (suc m)) h = record { low = refl; size = refl; product = refl; rational = refl }
over_is z (negsuc m) h = absurd (cc)

gcd_swapped : (a b : ℕ) → gcd a b ≡ gcd b a
gcd_swapped a b = let g = gcd_is b a in same_from_IsGcd a b (gcd a b) (gcd b a) (gcd_is a b) (g.1, g.0, λ d x y. g.2 d y x)

positive_unless : (n : ℕ) → n ≢ 0 → 0 < n
positive_unless n a = omega arith

apart : (b : Bool) → b ≡ true → b ≡ false → ⊥
apart b e f = cc

zero_abs : (x : ℤ) → unsigned_abs x ≡ 0 → x ≡ pos 0
zero_abs (pos n) e = ap pos e
zero_abs (negsuc n) e = absurd (omega arith)

-- a rational number that isn't 0 has a numerator that isn't
numerator_positive : (n d : ℤ) (h : IsLow (over n d)) → k24_laws.is_nought (exact_of (over n d) h) ≡ false → 0 < unsigned_abs n
numerator_positive n d h z = positive_unless (unsigned_abs n) (λ e. apart (all_zero (rational n)) (ap (λ x. all_zero (rational x)) (zero_abs n e)) (is_zero24 (over n d) h ∙ z))

over_low : (n d : ℤ) (s : Fraction4) → IsLow (over n d) → 0 < unsigned_abs n → IsOver n d s → IsLow s
over_low n d s h p o =
    let e = exact_is 4 (numbers4 (over n d)) h in
    let low : unsigned_abs s.d.n ≡ unsigned_abs n = ap unsigned_abs o.low in
    let one : gcd (unsigned_abs n) (unsigned_abs d) ≡ 1 = sym (common-rational n (unsigned_abs d)) ∙ e.lowest in
    is_exact-true 4 (numbers4 s) (record {
      size = refl;
      positive = subst (λ k. 0 < k) (sym low) p;
      upright = o.low ∙ ap pos (sym low);
      lowest = ap (λ (r : Fraction4). common (numerators4 r) (unsigned_abs s.d.n)) o.rational ∙ common-rational s.a0.n (unsigned_abs s.d.n) ∙ (λ i. gcd (o.size i) (low i)) ∙ gcd_swapped (unsigned_abs d) (unsigned_abs n) ∙ one;
    })

-- the product with it

mul_left_cancel : (n a b : ℕ) → 0 < n → n * a ≡ n * b → a ≡ b
mul_left_cancel n a b p e = grind arith

self_div : (k : ℕ) → 0 < k → k / k ≡ 1
self_div k p = let e : k * 1 ≡ k = omega arith in mul_left_cancel k (k / k) 1 p (mul-div_cancel' k (dvd_refl k) ∙ sym e)

gcd_self : (k : ℕ) → gcd k k ≡ k
gcd_self k = let g = gcd_is k k in same_from_IsGcd k k (gcd k k) k g (dvd_refl k, dvd_refl k, λ d x y. x)

one_of : (k : ℕ) → 0 < k → lowest_terms (rational (pos k)) k ≡ pos 1 ∷ pos 0 ∷ pos 0 ∷ pos 0 ∷ pos 1 ∷ []
one_of k p =
    let c : common (rational (pos k)) k ≡ k = common-rational (pos k) k ∙ gcd_self k in
    let n : pos (k / k) ≡ pos 1 = ap pos (self_div k p) in
    let z : pos (0 / k) ≡ pos 0 = ap pos (zero_over k) in
    ap (λ g. pos (k / g) ∷ pos (0 / g) ∷ pos (0 / g) ∷ pos (0 / g) ∷ pos (k / g) ∷ []) c ∙ (λ i. n i ∷ z i ∷ z i ∷ z i ∷ n i ∷ [])

mul_above : (m n : ℕ) → 0 < m → 0 < n → 0 < m * n
mul_above m n p q = grind arith

products_of : (x y : ℤ) → list4 (mul4 whole (num4 whole x) (num4 whole y)) ≡ rational (x *ℤ y)
products_of x y = ap list4 (scaled whole whole_ring x (num4 whole y)) ∙ (λ i. (x *ℤ y) ∷ times_zero x i ∷ times_zero x i ∷ times_zero x i ∷ [])

over_product : (n d : ℤ) (s : Fraction4) (h : IsLow (over n d)) (k : IsLow s) → 0 < unsigned_abs n → IsOver n d s → k24_laws.times (exact_of (over n d) h) (exact_of s k) ≡ k24_laws.unit
over_product n d s h k p o =
    let a = unsigned_abs n in let b = unsigned_abs d in
    let above : 0 < b = (positive_abs d (low_positive (over n d) h)).0 in
    let low : b * unsigned_abs s.d.n ≡ a * b = let e : b * a ≡ a * b = omega (arith, ints) in ap (λ z. b * unsigned_abs z) o.low ∙ e in
    let top : list4 (mul4 whole (num4 whole n) (four_of s)) ≡ rational (pos (a * b)) = ap (λ (r : Fraction4). list4 (mul4 whole (num4 whole n) (four_of r))) o.rational ∙ products_of n s.a0.n ∙ ap rational o.product in
    same_exact (k24_laws.times (exact_of (over n d) h) (exact_of s k)) k24_laws.unit
    (times-is whole4 four four_is (exact_of (over n d) h) (exact_of s k) ∙ (λ i. lowest_terms (top i) (low i)) ∙ one_of (a * b) (mul_above a b p above) ∙ one24)

-- the inverse

by_numbers : (n d : ℤ) (s : Fraction4) (h : IsLow (over n d)) → k24_laws.is_nought (exact_of (over n d) h) ≡ false → s ≡ upright (over d n) → numbers4 s ≡ (k24_laws.inverse (exact_of (over n d) h)).0
by_numbers n d s h z e =
    let o : IsOver n d s = subst (IsOver n d) (sym e) (over_is n d (low_positive (over n d) h)) in
    let p = numerator_positive n d h z in
    let k = over_low n d s h p o in
    ap (λ (v : Exact24). v.0) (inverse_unique k24_laws (exact_of (over n d) h) (exact_of s k) z (over_product n d s h k p o))

pub swapped_inverse : (r s : Fraction4) (h : IsLow r) → all_zero (r.a1.n ∷ r.a2.n ∷ r.a3.n ∷ []) ≡ true → k24_laws.is_nought (exact_of r h) ≡ false → s ≡ upright (swapped r) → numbers4 s ≡ (k24_laws.inverse (exact_of r h)).0
swapped_inverse r s h q z e =
    let c = three_zeros r.a1.n r.a2.n r.a3.n q in
    let same : r ≡ over r.a0.n r.d.n = λ i. record { d = r.d; a0 = r.a0; a1 = record { n = c.0 i }; a2 = record { n = c.1 i }; a3 = record { n = c.2 i } } in
    let P : Fraction4 → Type 0 = λ t. (l : IsLow t) → k24_laws.is_nought (exact_of t l) ≡ false → numbers4 s ≡ (k24_laws.inverse (exact_of t l)).0 in
    subst P (sym same) (λ l y. by_numbers r.a0.n r.d.n s l y e) h z
