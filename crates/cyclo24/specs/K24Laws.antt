-- What the calls on values of Q(sqrt 2, sqrt 3) give.
--
-- low_positive, size_positive: what a number in lowest terms says
-- product24, sum24, difference24, inverse24: what is reduced is the exact result
-- negated24, zero24, one24: the other operations
use Rattle.std.proofs.Common.{◌≡◌, ◌≢◌, ◌<◌, ◌*◌, ◌/◌, ℕ, refl, sym, ap, ◌∙◌, subst, arith, rules, ℤ, pos, negsuc, neg_ℤ, ◌+ℤ◌, ◌*ℤ◌, [], ◌∷◌, map, Bool, true, false, le_trans, lit≤}
use Rattle.std.specs.Prelude.{cond, int_lt}
use Rattle.std.specs.Int.RustNames.{unsigned_abs}
use Rattle.std.proofs.lemmas.Int.{ints, unsigned_abs-mul}
use Rattle.cyclo24.specs.declared.whole.Whole.{Whole}
use Rattle.cyclo24.specs.declared.fraction4.Fraction4.{Fraction4}
use Rattle.cyclo24.specs.Gcd.{gcd, quotient, lowest_terms, all_zero}
use Rattle.algebra.specs.Whole.{whole}
use Rattle.algebra.specs.WholeLaws.{whole_ring}
use Rattle.algebra.specs.SolveLaws.{mul_neg}
use Rattle.cyclo24.specs.Four.{Four, mul4, norm4, adj4, num4}
use Rattle.cyclo24.specs.FourLaws.{scaled}
use Rattle.cyclo24.specs.FourNorm.{whole4, four, list4, by_sign}
use Rattle.cyclo24.specs.FourNormLaws.{four_is, norm_zero}
use Rattle.cyclo24.specs.Listed.{is_exact, is_positive}
use Rattle.cyclo24.specs.ListedLaws.{exact_is, positive_abs, same_exact, is_nought-is}
use Rattle.cyclo24.specs.ExactLaws.{plus-is, neg-is, neg-list, times-is, inverse-is, nought-is, unit-is}
use Rattle.cyclo24.specs.Checked.{is_wide}
use Rattle.cyclo24.specs.CheckedLaws.{neg_narrow, below_wide}
use Rattle.cyclo24.specs.Written4.{numbers4, numerators4, four_of, IsNarrow4, sum, product, negated, minus}
use Rattle.cyclo24.specs.Written4Inverse.{inverse, upright}
use Rattle.cyclo24.specs.Written4ValuesLaws.{product_value, sum_value, inverse_value, times4}
use Rattle.cyclo24.specs.ExactK24.{Exact24, k24_laws}

-- in lowest terms over a denominator above 0
abbrev pub IsLow : Fraction4 → Type 0
IsLow r = is_exact 4 (numbers4 r) ≡ true

-- the exact value of a fraction in lowest terms
abbrev pub exact_of : (r : Fraction4) → IsLow r → Exact24
exact_of r h = (numbers4 r, h)

-- what an exact denominator says
pub low_positive : (r : Fraction4) → IsLow r → is_positive r.d.n ≡ true
low_positive r h = let e = exact_is 4 (numbers4 r) h in ap is_positive e.upright ∙ positive_pos (unsigned_abs r.d.n) e.positive
  where
    positive_pos : (n : ℕ) → 0 < n → is_positive (pos n) ≡ true
    positive_pos n h = search rules

-- a fraction with the list of an exact value is in lowest terms and has this value
pub made_low : (r : Fraction4) (x : Exact24) → numbers4 r ≡ x.0 → IsLow r
made_low r x e = ap (is_exact 4) e ∙ x.1

pub made_value : (r : Fraction4) (x : Exact24) → numbers4 r ≡ x.0 → (h : IsLow r) → exact_of r h ≡ x
made_value r x e h = same_exact (exact_of r h) x e

-- products

pub product24 : (a b r s : Fraction4) (h : IsLow a) (k : IsLow b) → (product a b).value ≡ r → numbers4 s ≡ lowest_terms (numerators4 r) (unsigned_abs r.d.n) → numbers4 s ≡ (k24_laws.times (exact_of a h) (exact_of b k)).0
product24 a b r s h k e q =
    let v = product_value a b in
    let n : numerators4 r ≡ list4 (mul4 whole (four_of a) (four_of b)) = ap numerators4 (sym e) ∙ v.0 in
    let d : unsigned_abs r.d.n ≡ unsigned_abs a.d.n * unsigned_abs b.d.n = ap (λ (s : Fraction4). unsigned_abs s.d.n) (sym e) ∙ ap unsigned_abs v.1 ∙ unsigned_abs-mul a.d.n b.d.n in
    q ∙ (λ i. lowest_terms (n i) (d i)) ∙ sym (times-is whole4 four four_is (exact_of a h) (exact_of b k))

-- sums

abbrev one_whole : Whole
one_whole = record { n = pos 1 }

abbrev minus_one : Whole
minus_one = record { n = negsuc 0 }

-- the quotients of the denominators by their greatest common divisor
abbrev over_gcd : Fraction4 → Fraction4 → Fraction4 → ℕ
over_gcd c a b = unsigned_abs c.d.n / gcd (unsigned_abs a.d.n) (unsigned_abs b.d.n)

quotient_upright : (z : ℤ) (g : ℕ) → is_positive z ≡ true → quotient z g ≡ pos (unsigned_abs z / g)
quotient_upright (pos n) g h = refl
quotient_upright (negsuc n) g h = absurd (cc)

-- the numerators and the denominator of a sum
sum_parts : (f : Whole) (a b r : Fraction4) → IsLow a → IsLow b → (sum f a b).value ≡ r → let q = pos (over_gcd b a b) in let p = pos (over_gcd a a b) in let c : ℤ → ℤ → ℤ = λ x y. q *ℤ x +ℤ f.n *ℤ (p *ℤ y) in
    (numerators4 r ≡ c a.a0.n b.a0.n ∷ c a.a1.n b.a1.n ∷ c a.a2.n b.a2.n ∷ c a.a3.n b.a3.n ∷ []) × (unsigned_abs r.d.n ≡ unsigned_abs a.d.n * over_gcd b a b)
sum_parts f a b r h k e =
    let g = gcd (unsigned_abs a.d.n) (unsigned_abs b.d.n) in
    let q : Whole = record { n = quotient b.d.n g } in
    let p : Whole = record { n = quotient a.d.n g } in
    let v = sum_value f a q b p in
    let qe = quotient_upright b.d.n g (low_positive b k) in
    let pe = quotient_upright a.d.n g (low_positive a h) in (
      ap numerators4 (sym e) ∙ v.0
          ∙ (λ i. (qe i *ℤ a.a0.n +ℤ f.n *ℤ (pe i *ℤ b.a0.n)) ∷ (qe i *ℤ a.a1.n +ℤ f.n *ℤ (pe i *ℤ b.a1.n)) ∷ (qe i *ℤ a.a2.n +ℤ f.n *ℤ (pe i *ℤ b.a2.n)) ∷ (qe i *ℤ a.a3.n +ℤ f.n *ℤ (pe i *ℤ b.a3.n)) ∷ []),
      ap (λ (s : Fraction4). unsigned_abs s.d.n) (sym e) ∙ ap unsigned_abs v.1 ∙ ap (λ z. unsigned_abs (a.d.n *ℤ z)) qe ∙ unsigned_abs-mul a.d.n (pos (over_gcd b a b)),
    )

pub sum24 : (a b r s : Fraction4) (h : IsLow a) (k : IsLow b) → (sum (record { n = pos 1 }) a b).value ≡ r → numbers4 s ≡ lowest_terms (numerators4 r) (unsigned_abs r.d.n) → numbers4 s ≡ (k24_laws.plus (exact_of a h) (exact_of b k)).0
sum24 a b r s h k e l =
    let v = sum_parts one_whole a b r h k e in
    let q = pos (over_gcd b a b) in let p = pos (over_gcd a a b) in
    let c : (x y : ℤ) → q *ℤ x +ℤ pos 1 *ℤ (p *ℤ y) ≡ q *ℤ x +ℤ p *ℤ y = λ x y. ap (λ z. q *ℤ x +ℤ z) (whole_ring.mul_one (p *ℤ y)) in
    l ∙ (λ i. lowest_terms (v.0 i) (v.1 i))
    ∙ ap (λ xs. lowest_terms xs (unsigned_abs a.d.n * over_gcd b a b)) (λ i. c a.a0.n b.a0.n i ∷ c a.a1.n b.a1.n i ∷ c a.a2.n b.a2.n i ∷ c a.a3.n b.a3.n i ∷ [])
    ∙ sym (plus-is whole4 four four_is (exact_of a h) (exact_of b k))

-- the negative of an exact value as a list
pub neg_parts : (b : Fraction4) (k : IsLow b) → (k24_laws.neg (exact_of b k)).0 ≡ numbers4 (negated b)
neg_parts b k = neg-is whole4 four four_is (exact_of b k) ∙ neg-list whole4 four four_is (exact_of b k)

minus_times : (p y : ℤ) → negsuc 0 *ℤ (p *ℤ y) ≡ p *ℤ neg_ℤ y
minus_times p y = let e : negsuc 0 *ℤ (p *ℤ y) ≡ neg_ℤ (p *ℤ y) = omega (arith, ints) in e ∙ sym (mul_neg whole whole_ring p y)

pub difference24 : (a b r s : Fraction4) (h : IsLow a) (k : IsLow b) → (sum (record { n = negsuc 0 }) a b).value ≡ r → numbers4 s ≡ lowest_terms (numerators4 r) (unsigned_abs r.d.n)
    → numbers4 s ≡ (k24_laws.plus (exact_of a h) (k24_laws.neg (exact_of b k))).0
difference24 a b r s h k e l =
    let v = sum_parts minus_one a b r h k e in
    let q = pos (over_gcd b a b) in let p = pos (over_gcd a a b) in
    let c : (x y : ℤ) → q *ℤ x +ℤ negsuc 0 *ℤ (p *ℤ y) ≡ q *ℤ x +ℤ p *ℤ neg_ℤ y = λ x y. ap (λ z. q *ℤ x +ℤ z) (minus_times p y) in
    let m = made_low (negated b) (k24_laws.neg (exact_of b k)) (sym (neg_parts b k)) in
    l ∙ (λ i. lowest_terms (v.0 i) (v.1 i))
    ∙ ap (λ xs. lowest_terms xs (unsigned_abs a.d.n * over_gcd b a b)) (λ i. c a.a0.n b.a0.n i ∷ c a.a1.n b.a1.n i ∷ c a.a2.n b.a2.n i ∷ c a.a3.n b.a3.n i ∷ [])
    ∙ sym (plus-is whole4 four four_is (exact_of a h) (exact_of (negated b) m))
    ∙ ap (λ y. (k24_laws.plus (exact_of a h) y).0) (made_value (negated b) (k24_laws.neg (exact_of b k)) (sym (neg_parts b k)) m)

-- negatives, 0 and 1

pub negated24 : (r s : Fraction4) (h : IsLow r) → s ≡ negated r → numbers4 s ≡ (k24_laws.neg (exact_of r h)).0
negated24 r s h e = ap numbers4 e ∙ sym (neg_parts r h)

pub negated_narrow : (r s : Fraction4) → IsNarrow4 r → s ≡ negated r → IsNarrow4 s
negated_narrow r s h e =
    subst IsNarrow4 (sym e) (record { narrow0 = neg_narrow r.a0.n h.narrow0; narrow1 = neg_narrow r.a1.n h.narrow1; narrow2 = neg_narrow r.a2.n h.narrow2; narrow3 = neg_narrow r.a3.n h.narrow3; narrow = h.narrow })

-- the number n over 1
abbrev pub small : ℕ → Fraction4
small n = record { d = record { n = pos 1 }; a0 = record { n = pos n }; a1 = record { n = pos 0 }; a2 = record { n = pos 0 }; a3 = record { n = pos 0 } }

pub small_narrow : (n : ℕ) → n < 2 → IsNarrow4 (small n)
small_narrow n h =
    let zero : is_wide (pos 0) ≡ false = below_wide (pos 0) (lit≤ tt) in
    record { narrow0 = below_wide (pos n) (le_trans h (lit≤ tt)); narrow1 = zero; narrow2 = zero; narrow3 = zero; narrow = below_wide (pos 1) (lit≤ tt) }

pub zero24 : pos 0 ∷ pos 0 ∷ pos 0 ∷ pos 0 ∷ pos 1 ∷ [] ≡ k24_laws.nought.0
unfolding gcd
zero24 = sym (nought-is whole4 four four_is)

pub one24 : pos 1 ∷ pos 0 ∷ pos 0 ∷ pos 0 ∷ pos 1 ∷ [] ≡ k24_laws.unit.0
unfolding gcd
one24 = sym (unit-is whole4 four four_is)

pub is_zero24 : (r : Fraction4) (h : IsLow r) → all_zero (numerators4 r) ≡ k24_laws.is_nought (exact_of r h)
is_zero24 r h = sym (is_nought-is whole4 four four_is (exact_of r h))

-- inverses

abs_neg : (z : ℤ) → unsigned_abs (neg_ℤ z) ≡ unsigned_abs z
abs_neg z = omega (arith, ints)

not_negative : (n : ℕ) → int_lt (pos n) (pos 0) ≡ false
not_negative n = search rules

-- over a denominator above 0
upright_by : (r : Fraction4) (n : ℤ) → r.d.n ≡ n → (d : ℤ) (x : Four ℤ) → numerators4 r ≡ times4 d x → (numerators4 (upright r) ≡ times4 d (by_sign n x)) × (unsigned_abs (upright r).d.n ≡ unsigned_abs n)
upright_by r (pos n) e d x f =
    let c : upright r ≡ r = ap (λ z. cond (int_lt z (pos 0)) (record { d = minus r.d; a0 = minus r.a0; a1 = minus r.a1; a2 = minus r.a2; a3 = minus r.a3 }) r) e ∙ ap (λ b. cond b (record { d = minus r.d; a0 = minus r.a0; a1 = minus r.a1; a2 = minus r.a2; a3 = minus r.a3 }) r) (not_negative n) in
    (ap numerators4 c ∙ f, ap (λ (s : Fraction4). unsigned_abs s.d.n) c ∙ ap unsigned_abs e)
upright_by r (negsuc n) e d x f =
    let m : Fraction4 = record { d = minus r.d; a0 = minus r.a0; a1 = minus r.a1; a2 = minus r.a2; a3 = minus r.a3 } in
    let c : upright r ≡ m = ap (λ z. cond (int_lt z (pos 0)) (record { d = minus r.d; a0 = minus r.a0; a1 = minus r.a1; a2 = minus r.a2; a3 = minus r.a3 }) r) e ∙ refl in
    let back : (y : ℤ) → neg_ℤ (d *ℤ y) ≡ d *ℤ neg_ℤ y = λ y. sym (mul_neg whole whole_ring d y) in (
      ap numerators4 c ∙ ap (map neg_ℤ) f ∙ (λ i. back x.c0 i ∷ back x.c1 i ∷ back x.c2 i ∷ back x.c3 i ∷ []),
      ap (λ (s : Fraction4). unsigned_abs s.d.n) c ∙ abs_neg r.d.n ∙ ap unsigned_abs e,
    )

-- a number that isn't 0 has a norm that isn't 0
pub size_positive : (a : Fraction4) (h : IsLow a) → k24_laws.is_nought (exact_of a h) ≡ false → 0 < unsigned_abs (norm4 whole (four_of a))
size_positive a h e = positive_unless (unsigned_abs (norm4 whole (four_of a))) (λ z. apart (all_zero (numerators4 a)) (zero_all (four_of a) (norm_zero (four_of a) z)) (is_zero24 a h ∙ e))
  where
    positive_unless : (n : ℕ) → n ≢ 0 → 0 < n
    positive_unless n a = omega arith

    apart : (b : Bool) → b ≡ true → b ≡ false → ⊥
    apart b e f = cc

    zero_all : (x : Four ℤ) → x ≡ num4 whole (pos 0) → all_zero (list4 x) ≡ true
    zero_all x e = ap (λ y. all_zero (list4 y)) e

pub inverse24 : (a r u s : Fraction4) (h : IsLow a) → k24_laws.is_nought (exact_of a h) ≡ false → (inverse a).value ≡ r → u ≡ upright r → numbers4 s ≡ lowest_terms (numerators4 u) (unsigned_abs u.d.n)
    → numbers4 s ≡ (k24_laws.inverse (exact_of a h)).0
inverse24 a r u s h z e w l =
    let v = inverse_value a in
    let x = four_of a in
    let n = norm4 whole x in
    let t = upright_by r n (ap (λ (s : Fraction4). s.d.n) (sym e) ∙ v.1) a.d.n (adj4 whole x) (ap numerators4 (sym e) ∙ v.0) in
    let up : a.d.n ≡ pos (unsigned_abs a.d.n) = (positive_abs a.d.n (low_positive a h)).1 in
    l ∙ ap (λ (y : Fraction4). lowest_terms (numerators4 y) (unsigned_abs y.d.n)) w
    ∙ (λ i. lowest_terms (t.0 i) (t.1 i))
    ∙ ap (λ d. lowest_terms (times4 d (by_sign n (adj4 whole x))) (unsigned_abs n)) up
    ∙ ap (λ y. lowest_terms (list4 y) (unsigned_abs n)) (sym (scaled whole whole_ring (pos (unsigned_abs a.d.n)) (by_sign n (adj4 whole x))))
    ∙ sym (inverse-is whole4 four four_is (exact_of a h) (size_positive a h z))
