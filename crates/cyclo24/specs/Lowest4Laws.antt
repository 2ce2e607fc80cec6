-- That the short ways to a product, a sum and an inverse give what the formulas do, and write nothing wide.
--
-- answered_by: what is reduced is the answer
-- product_positive, product_ready, sum_ready, inverse_answered, inverse_ready: what is asked before reducing
-- times_zero: by 0
-- fraction_all, short, two_all, u_all, v_all: nothing wide in short formulas
-- rational_within: a rational number of short parts is short
-- rational_product_numbers, rational_sum_numbers: the numbers of a product and a sum of rational numbers
-- product_answered, rational_product_answered, sum_answered, rational_sum_answered, inverse_short: the short ways
use Rattle.std.proofs.Common.{◌≡◌, ◌<◌, ◌≤◌, ◌*◌, ◌^◌, ℕ, refl, sym, ap, ◌∙◌, subst, arith, rules, ℤ, pos, negsuc, neg_ℤ, ◌+ℤ◌, ◌*ℤ◌, List, [], ◌∷◌, true, false, Ok, lit≤, le_trans, get_or}
use Rattle.std.specs.Prelude.{cond, int_lt}
use Rattle.std.specs.Int.RustNames.{unsigned_abs}
use Rattle.std.proofs.lemmas.Int.{ints}
use Rattle.cyclo24.specs.declared.whole.Whole.{Whole}
use Rattle.cyclo24.specs.declared.whole.Product.{Product}
use Rattle.cyclo24.specs.declared.small.Small.{Small}
use Rattle.cyclo24.specs.declared.short4.Short4.{Short4}
use Rattle.cyclo24.specs.declared.fraction4.Fraction4.{Fraction4}
use Rattle.cyclo24.specs.Gcd.{gcd, quotient, lowest_terms}
use Rattle.cyclo24.specs.GcdLaws.{gcd_is}
use Rattle.algebra.specs.Whole.{whole}
use Rattle.algebra.specs.WholeLaws.{whole_ring}
use Rattle.algebra.specs.SolveLaws.{by_test}
use Rattle.cyclo24.specs.Four.{Four, mul4, num4, norm4, adj4}
use Rattle.cyclo24.specs.Four as Fours
use Rattle.cyclo24.specs.SmallLaws.{factor_most}
use Rattle.cyclo24.specs.FourLaws.{scaled}
use Rattle.cyclo24.specs.FourNorm.{list4}
use Rattle.cyclo24.specs.Listed.{is_positive}
use Rattle.cyclo24.specs.ListedLaws.{positive_abs}
use Rattle.cyclo24.specs.Checked.{Checked, answer, any_wide, then, give, times, sum_of, product_of}
use Rattle.cyclo24.specs.CheckedLaws.{answer_ok, neg_narrow, quotient_below}
use Rattle.cyclo24.specs.Short.{IsShortProduct, none, more}
use Rattle.cyclo24.specs.ShortLaws.{then_all, times_narrow, written_all, short_narrow, short_most}
use Rattle.cyclo24.specs.Written4.{numbers4, numerators4, four_of, IsNarrow4, fraction, product0, product1, product2, product3, product, joined, sum_over, sum, minus}
use Rattle.cyclo24.specs.Written4Inverse.{norm_u, norm_v, norm, multiple, inverse_over, inverse, upright}
use Rattle.cyclo24.specs.Written4Laws.{quotient_positive}
use Rattle.cyclo24.specs.Written4ValuesLaws.{u_value, v_value, product_value, sum_value, inverse_value, product_narrow, sum_narrow, inverse_narrow}
use Rattle.cyclo24.specs.Short4.{short_of, wide_of, four_of as shorts, numerators, IsWithin4, IsRational4, rational}
use Rattle.cyclo24.specs.Lowest4.{IsAnswered4}

-- the answer of a computation, in lowest terms
abbrev pub IsAnswer : Checked Fraction4 → Fraction4 → Type 0
IsAnswer m s = IsAnswered4 m.written (numerators4 m.value) (unsigned_abs m.value.d.n) s

-- what is reduced is the answer
pub answered_by : (m : Checked Fraction4) (r s : Fraction4) → answer m ≡ Ok r → numbers4 s ≡ lowest_terms (numerators4 r) (unsigned_abs r.d.n) → IsNarrow4 s → IsAnswer m s
answered_by m r s e l n =
    let f = answer_ok m r e in
    record { written = f.0; lowest = l ∙ ap (λ (q : Fraction4). lowest_terms (numerators4 q) (unsigned_abs q.d.n)) (sym f.1); narrow = n }

positive_pos : (n : ℕ) → 0 < n → is_positive (pos n) ≡ true
positive_pos n h = search rules

pub product_positive : (x y : ℤ) → is_positive x ≡ true → is_positive y ≡ true → is_positive (x *ℤ y) ≡ true
product_positive (pos m) (pos n) h k = by_parts m n (positive_abs (pos m) h).0 (positive_abs (pos n) k).0
  where
    mul_above : (m n : ℕ) → 0 < m → 0 < n → 0 < m * n
    mul_above m n p q = grind arith

    by_parts : (m n : ℕ) → 0 < m → 0 < n → is_positive (pos m *ℤ pos n) ≡ true
    by_parts m n p q = positive_pos (m * n) (mul_above m n p q)
product_positive (pos m) (negsuc n) h k = absurd (cc)
product_positive (negsuc m) y h k = absurd (cc)

-- the long ways

pub product_ready : (a b r : Fraction4) → is_positive a.d.n ≡ true → is_positive b.d.n ≡ true → answer (product a b) ≡ Ok r → IsNarrow4 r × (is_positive r.d.n ≡ true)
product_ready a b r h k e =
    let f = answer_ok (product a b) r e in
    let d : r.d.n ≡ a.d.n *ℤ b.d.n = ap (λ (s : Fraction4). s.d.n) (sym f.1) ∙ (product_value a b).1 in
    (subst IsNarrow4 f.1 (product_narrow a b f.0), ap is_positive d ∙ product_positive a.d.n b.d.n h k)

pub low_sum_positive : (d e : ℤ) → is_positive d ≡ true → is_positive e ≡ true → is_positive (d *ℤ quotient e (gcd (unsigned_abs d) (unsigned_abs e))) ≡ true
low_sum_positive d e h k = let g = gcd (unsigned_abs d) (unsigned_abs e) in product_positive d (quotient e g) h (quotient_positive e g k (gcd_is (unsigned_abs d) (unsigned_abs e)).1)

pub sum_ready : (f : Whole) (a b r : Fraction4) → is_positive a.d.n ≡ true → is_positive b.d.n ≡ true → answer (sum f a b) ≡ Ok r → IsNarrow4 r × (is_positive r.d.n ≡ true)
sum_ready f a b r h k e =
    let g = gcd (unsigned_abs a.d.n) (unsigned_abs b.d.n) in
    let q : Whole = record { n = quotient b.d.n g } in
    let p : Whole = record { n = quotient a.d.n g } in
    let t = answer_ok (sum f a b) r e in
    let d : r.d.n ≡ a.d.n *ℤ quotient b.d.n g = ap (λ (s : Fraction4). s.d.n) (sym t.1) ∙ (sum_value f a q b p).1 in
    (subst IsNarrow4 t.1 (sum_narrow f a q b p t.0), ap is_positive d ∙ low_sum_positive a.d.n b.d.n h k)

upright_narrow : (r : Fraction4) → IsNarrow4 r → IsNarrow4 (upright r)
upright_narrow r h = by_test (λ b. IsNarrow4 (cond b (record { d = minus r.d; a0 = minus r.a0; a1 = minus r.a1; a2 = minus r.a2; a3 = minus r.a3 }) r)) (int_lt r.d.n (pos 0))
    (λ _. record { narrow0 = neg_narrow r.a0.n h.narrow0; narrow1 = neg_narrow r.a1.n h.narrow1; narrow2 = neg_narrow r.a2.n h.narrow2; narrow3 = neg_narrow r.a3.n h.narrow3; narrow = neg_narrow r.d.n h.narrow })
    (λ _. h)

upright_positive : (z : ℤ) → 0 < unsigned_abs z → is_positive (cond (int_lt z (pos 0)) (neg_ℤ z) z) ≡ true
upright_positive (pos n) h = search rules
upright_positive (negsuc n) h = search rules

pub upright_low : (r : Fraction4) → 0 < unsigned_abs r.d.n → is_positive (upright r).d.n ≡ true
upright_low r h = by_test (λ b. int_lt r.d.n (pos 0) ≡ b → is_positive (cond b (record { d = minus r.d; a0 = minus r.a0; a1 = minus r.a1; a2 = minus r.a2; a3 = minus r.a3 }) r).d.n ≡ true) (int_lt r.d.n (pos 0))
    (λ e _. ap (λ b. is_positive (cond b (neg_ℤ r.d.n) r.d.n)) (sym e) ∙ upright_positive r.d.n h)
    (λ e _. ap (λ b. is_positive (cond b (neg_ℤ r.d.n) r.d.n)) (sym e) ∙ upright_positive r.d.n h) refl

pub inverse_answered : (a r : Fraction4) → answer (inverse a) ≡ Ok r → IsNarrow4 r
inverse_answered a r e = let f = answer_ok (inverse a) r e in subst IsNarrow4 f.1 (inverse_narrow a f.0)

pub inverse_ready : (a r s : Fraction4) → 0 < unsigned_abs (norm4 whole (four_of a)) → answer (inverse a) ≡ Ok r → s ≡ upright r → IsNarrow4 s × (is_positive s.d.n ≡ true)
inverse_ready a r s z e u =
    let f = answer_ok (inverse a) r e in
    let n : r.d.n ≡ norm4 whole (four_of a) = ap (λ (s : Fraction4). s.d.n) (sym f.1) ∙ (inverse_value a).1 in
    let positive : 0 < unsigned_abs r.d.n = subst (λ z. 0 < unsigned_abs z) (sym n) z in
    (subst IsNarrow4 (sym u) (upright_narrow r (inverse_answered a r e)), ap (λ (s : Fraction4). is_positive s.d.n) u ∙ upright_low r positive)

pub inverse_answered_by : (a r u s : Fraction4) → answer (inverse a) ≡ Ok r → u ≡ upright r → numbers4 s ≡ lowest_terms (numerators4 u) (unsigned_abs u.d.n) → IsNarrow4 s
    → IsAnswered4 (inverse a).written (numerators4 (upright (inverse a).value)) (unsigned_abs (upright (inverse a).value).d.n) s
inverse_answered_by a r u s e w l n =
    let f = answer_ok (inverse a) r e in
    record { written = f.0; lowest = l ∙ ap (λ (q : Fraction4). lowest_terms (numerators4 q) (unsigned_abs q.d.n)) (w ∙ ap upright (sym f.1)); narrow = n }

-- nothing wide in short formulas

pub fraction_all : (c0 c1 c2 c3 d : Checked Whole) → any_wide c0.written ≡ false → any_wide c1.written ≡ false → any_wide c2.written ≡ false → any_wide c3.written ≡ false → any_wide d.written ≡ false → any_wide (fraction c0 c1 c2 c3 d).written ≡ false
unfolding fraction
fraction_all c0 c1 c2 c3 d h0 h1 h2 h3 hd = then_all c0 _ h0 (then_all c1 _ h1 (then_all c2 _ h2 (then_all c3 _ h3 (then_all d _ hd refl))))

pub short : (f : ℤ) (x y : Whole) → unsigned_abs f ≤ 8 → unsigned_abs x.n ≤ 2 ^ 28 → unsigned_abs y.n ≤ 2 ^ 28 → IsShortProduct (product_of f x y)
short f x y e h k = record { factor = e; x = h; y = k }

four_all : (p q r s : Product) → IsShortProduct p → IsShortProduct q → IsShortProduct r → IsShortProduct s → any_wide (sum_of (p ∷ q ∷ r ∷ s ∷ [])).written ≡ false
four_all p q r s h k l m = short_narrow (p ∷ q ∷ r ∷ s ∷ []) (lit≤ tt) (more p (q ∷ r ∷ s ∷ []) h (more q (r ∷ s ∷ []) k (more r (s ∷ []) l (more s [] m none))))

pub two_all : (p q : Product) → IsShortProduct p → IsShortProduct q → any_wide (sum_of (p ∷ q ∷ [])).written ≡ false
two_all p q h k = short_narrow (p ∷ q ∷ []) (lit≤ tt) (more p (q ∷ []) h (more q [] k none))

product_all : (a b : Fraction4) → IsWithin4 (2 ^ 28) (short_of a) → IsWithin4 (2 ^ 28) (short_of b) → any_wide (product a b).written ≡ false
unfolding product product0 product1 product2 product3
product_all a b h k =
    fraction_all (product0 a b) (product1 a b) (product2 a b) (product3 a b) (times a.d b.d)
    (four_all _ _ _ _ (short (pos 1) a.a0 b.a0 (lit≤ tt) h.a0 k.a0) (short (pos 2) a.a1 b.a1 (lit≤ tt) h.a1 k.a1) (short (pos 3) a.a2 b.a2 (lit≤ tt) h.a2 k.a2) (short (pos 6) a.a3 b.a3 (lit≤ tt) h.a3 k.a3))
    (four_all _ _ _ _ (short (pos 1) a.a0 b.a1 (lit≤ tt) h.a0 k.a1) (short (pos 1) a.a1 b.a0 (lit≤ tt) h.a1 k.a0) (short (pos 3) a.a2 b.a3 (lit≤ tt) h.a2 k.a3) (short (pos 3) a.a3 b.a2 (lit≤ tt) h.a3 k.a2))
    (four_all _ _ _ _ (short (pos 1) a.a0 b.a2 (lit≤ tt) h.a0 k.a2) (short (pos 1) a.a2 b.a0 (lit≤ tt) h.a2 k.a0) (short (pos 2) a.a1 b.a3 (lit≤ tt) h.a1 k.a3) (short (pos 2) a.a3 b.a1 (lit≤ tt) h.a3 k.a1))
    (four_all _ _ _ _ (short (pos 1) a.a0 b.a3 (lit≤ tt) h.a0 k.a3) (short (pos 1) a.a3 b.a0 (lit≤ tt) h.a3 k.a0) (short (pos 1) a.a1 b.a2 (lit≤ tt) h.a1 k.a2) (short (pos 1) a.a2 b.a1 (lit≤ tt) h.a2 k.a1))
    (times_narrow a.d b.d h.d k.d)

joined_all : (x p f y q : Whole) → unsigned_abs x.n ≤ 2 ^ 28 → unsigned_abs p.n ≤ 2 ^ 28 → unsigned_abs f.n ≤ 8 → unsigned_abs y.n ≤ 2 ^ 28 → unsigned_abs q.n ≤ 2 ^ 28 → any_wide (joined x p f y q).written ≡ false
unfolding joined
joined_all x p f y q hx hp hf hy hq = two_all (product_of (pos 1) x p) (record { factor = f; x = y; y = q }) (short (pos 1) x p (lit≤ tt) hx hp) (record { factor = hf; x = hy; y = hq })

sum_all : (f : Whole) (a b : Fraction4) → unsigned_abs f.n ≤ 8 → IsWithin4 (2 ^ 28) (short_of a) → IsWithin4 (2 ^ 28) (short_of b) → any_wide (sum f a b).written ≡ false
unfolding sum_over
sum_all f a b hf h k =
    let g = gcd (unsigned_abs a.d.n) (unsigned_abs b.d.n) in
    let q : Whole = record { n = quotient b.d.n g } in
    let p : Whole = record { n = quotient a.d.n g } in
    let hq : unsigned_abs (quotient b.d.n g) ≤ 2 ^ 28 = le_trans (quotient_below b.d.n g) k.d in
    let hp : unsigned_abs (quotient a.d.n g) ≤ 2 ^ 28 = le_trans (quotient_below a.d.n g) h.d in
    fraction_all (joined a.a0 q f b.a0 p) (joined a.a1 q f b.a1 p) (joined a.a2 q f b.a2 p) (joined a.a3 q f b.a3 p) (times a.d q)
    (joined_all a.a0 q f b.a0 p h.a0 hq hf k.a0 hp) (joined_all a.a1 q f b.a1 p h.a1 hq hf k.a1 hp) (joined_all a.a2 q f b.a2 p h.a2 hq hf k.a2 hp) (joined_all a.a3 q f b.a3 p h.a3 hq hf k.a3 hp)
    (times_narrow a.d q h.d hq)

-- the short ways

pub product_answered : (a b s : Fraction4) (r : Short4) → IsWithin4 (2 ^ 28) (short_of a) → IsWithin4 (2 ^ 28) (short_of b)
    → numerators r ≡ list4 (mul4 whole (four_of a) (four_of b)) → r.d.n ≡ a.d.n *ℤ b.d.n → numbers4 s ≡ lowest_terms (numerators r) (unsigned_abs r.d.n) → IsNarrow4 s → IsAnswer (product a b) s
product_answered a b s r h k x d l n =
    let v = product_value a b in
    record { written = product_all a b h k; lowest = l ∙ (λ i. lowest_terms ((x ∙ sym v.0) i) (unsigned_abs ((d ∙ sym v.1) i))); narrow = n }

pub sum_answered : (f : Whole) (a b s : Fraction4) (xs : List ℤ) (d : ℤ) → unsigned_abs f.n ≤ 8 → IsWithin4 (2 ^ 28) (short_of a) → IsWithin4 (2 ^ 28) (short_of b)
    → xs ≡ numerators4 (sum f a b).value → d ≡ (sum f a b).value.d.n → numbers4 s ≡ lowest_terms xs (unsigned_abs d) → IsNarrow4 s → IsAnswer (sum f a b) s
sum_answered f a b s xs d hf h k x e l n = record { written = sum_all f a b hf h k; lowest = l ∙ (λ i. lowest_terms (x i) (unsigned_abs (e i))); narrow = n }

zero_within : (z : ℤ) → z ≡ pos 0 → unsigned_abs z ≤ 2 ^ 28
zero_within z e = subst (λ (y : ℤ). unsigned_abs y ≤ 2 ^ 28) (sym e) (lit≤ tt)

-- a rational number of short parts is short
pub rational_within : (a : Fraction4) → IsRational4 a → IsWithin4 (2 ^ 28) (short_of a)
rational_within a h = record { d = h.d; a0 = h.a0; a1 = zero_within a.a1.n h.a1; a2 = zero_within a.a2.n h.a2; a3 = zero_within a.a3.n h.a3 }

four_of-rational : (a : Fraction4) → IsRational4 a → four_of a ≡ num4 whole a.a0.n
four_of-rational a h = λ i. record { c0 = a.a0.n; c1 = h.a1 i; c2 = h.a2 i; c3 = h.a3 i }

pub times_zero : (z : ℤ) → z *ℤ pos 0 ≡ pos 0
times_zero z = omega (arith, ints)

products-rational : (a b : Fraction4) → IsRational4 a → IsRational4 b → rational (a.a0.n *ℤ b.a0.n) ≡ list4 (mul4 whole (four_of a) (four_of b))
products-rational a b h k =
    let x = a.a0.n in let y = b.a0.n in
    sym ((λ i. list4 (mul4 whole (four_of-rational a h i) (four_of-rational b k i))) ∙ ap list4 (scaled whole whole_ring x (num4 whole y)) ∙ (λ i. (x *ℤ y) ∷ times_zero x i ∷ times_zero x i ∷ times_zero x i ∷ []))

-- the numbers of a product of rational numbers
pub rational_product_numbers : (a b : Fraction4) (n d : Small) → IsRational4 a → IsRational4 b → n ≡ record { n = a.a0.n *ℤ b.a0.n } → d ≡ record { n = a.d.n *ℤ b.d.n }
    → (rational n.n ≡ numerators4 (product a b).value) × (d.n ≡ (product a b).value.d.n)
rational_product_numbers a b n d h k e f =
    let v = product_value a b in
    let x : rational n.n ≡ list4 (mul4 whole (four_of a) (four_of b)) = ap (λ (w : Small). rational w.n) e ∙ products-rational a b h k in
    (x ∙ sym v.0, ap (λ (w : Small). w.n) f ∙ sym v.1)

pub rational_product_answered : (a b s : Fraction4) (n d : Small) → IsRational4 a → IsRational4 b → n ≡ record { n = a.a0.n *ℤ b.a0.n } → d ≡ record { n = a.d.n *ℤ b.d.n }
    → numbers4 s ≡ lowest_terms (rational n.n) (unsigned_abs d.n) → IsNarrow4 s → IsAnswer (product a b) s
rational_product_answered a b s n d h k e f l m =
    let x = rational_product_numbers a b n d h k e f in
    record { written = product_all a b (rational_within a h) (rational_within b k); lowest = l ∙ (λ i. lowest_terms (x.0 i) (unsigned_abs (x.1 i))); narrow = m }

-- sums

abbrev coefficient : ℤ → ℤ → ℤ → ℤ → ℤ → ℤ
coefficient f d e x y = let g = gcd (unsigned_abs d) (unsigned_abs e) in quotient e g *ℤ x +ℤ f *ℤ (quotient d g *ℤ y)

abbrev over : ℤ → Small
over z = record { n = z }

pub sum_numbers : (f : ℤ) (a b : Fraction4) (x y r : Short4) → x ≡ short_of a → y ≡ short_of b
    → r.a0 ≡ over (coefficient f x.d.n y.d.n x.a0.n y.a0.n) → r.a1 ≡ over (coefficient f x.d.n y.d.n x.a1.n y.a1.n)
    → r.a2 ≡ over (coefficient f x.d.n y.d.n x.a2.n y.a2.n) → r.a3 ≡ over (coefficient f x.d.n y.d.n x.a3.n y.a3.n)
    → r.d ≡ over (x.d.n *ℤ quotient y.d.n (gcd (unsigned_abs x.d.n) (unsigned_abs y.d.n)))
    → (numerators r ≡ numerators4 (sum (record { n = f }) a b).value) × (r.d.n ≡ (sum (record { n = f }) a b).value.d.n)
sum_numbers f a b x y r hx hy e0 e1 e2 e3 ed =
    let g = gcd (unsigned_abs a.d.n) (unsigned_abs b.d.n) in
    let v = sum_value (record { n = f }) a (record { n = quotient b.d.n g }) b (record { n = quotient a.d.n g }) in
    let c0 = e0 ∙ (λ i. over (coefficient f (hx i).d.n (hy i).d.n (hx i).a0.n (hy i).a0.n)) in
    let c1 = e1 ∙ (λ i. over (coefficient f (hx i).d.n (hy i).d.n (hx i).a1.n (hy i).a1.n)) in
    let c2 = e2 ∙ (λ i. over (coefficient f (hx i).d.n (hy i).d.n (hx i).a2.n (hy i).a2.n)) in
    let c3 = e3 ∙ (λ i. over (coefficient f (hx i).d.n (hy i).d.n (hx i).a3.n (hy i).a3.n)) in
    let d = ed ∙ (λ i. over ((hx i).d.n *ℤ quotient (hy i).d.n (gcd (unsigned_abs (hx i).d.n) (unsigned_abs (hy i).d.n)))) in
    ((λ i. (c0 i).n ∷ (c1 i).n ∷ (c2 i).n ∷ (c3 i).n ∷ []) ∙ sym v.0, (λ i. (d i).n) ∙ sym v.1)

pub sum_low_positive : (a b : Fraction4) (x y r : Short4) → x ≡ short_of a → y ≡ short_of b → is_positive a.d.n ≡ true → is_positive b.d.n ≡ true
    → r.d ≡ over (x.d.n *ℤ quotient y.d.n (gcd (unsigned_abs x.d.n) (unsigned_abs y.d.n))) → is_positive r.d.n ≡ true
sum_low_positive a b x y r hx hy p q ed =
    let d = ed ∙ (λ i. over ((hx i).d.n *ℤ quotient (hy i).d.n (gcd (unsigned_abs (hx i).d.n) (unsigned_abs (hy i).d.n)))) in
    ap (λ (w : Small). is_positive w.n) d ∙ low_sum_positive a.d.n b.d.n p q

-- the numbers of a sum of rational numbers, by what the calls gave
pub rational_numbers : (f : ℤ) (a b : Fraction4) (d e g p q x y n l : Small) → d ≡ over a.d.n → e ≡ over b.d.n → g ≡ over (pos (gcd (unsigned_abs d.n) (unsigned_abs e.n)))
    → p ≡ over (quotient d.n (unsigned_abs g.n)) → q ≡ over (quotient e.n (unsigned_abs g.n)) → x ≡ over a.a0.n → y ≡ over b.a0.n
    → n ≡ over (q.n *ℤ x.n +ℤ f *ℤ (p.n *ℤ y.n)) → l ≡ over (d.n *ℤ q.n)
    → (n.n ≡ coefficient f a.d.n b.d.n a.a0.n b.a0.n) × (l.n ≡ a.d.n *ℤ quotient b.d.n (gcd (unsigned_abs a.d.n) (unsigned_abs b.d.n)))
rational_numbers f a b d e g p q x y n l hd he hg hp hq hx hy hn hl =
    let k = gcd (unsigned_abs a.d.n) (unsigned_abs b.d.n) in
    let ge : unsigned_abs g.n ≡ k = ap (λ (w : Small). unsigned_abs w.n) hg ∙ (λ i. gcd (unsigned_abs (hd i).n) (unsigned_abs (he i).n)) in
    let pe : p.n ≡ quotient a.d.n k = ap (λ (w : Small). w.n) hp ∙ (λ i. quotient (hd i).n (ge i)) in
    let qe : q.n ≡ quotient b.d.n k = ap (λ (w : Small). w.n) hq ∙ (λ i. quotient (he i).n (ge i)) in
    (ap (λ (w : Small). w.n) hn ∙ (λ i. qe i *ℤ (hx i).n +ℤ f *ℤ (pe i *ℤ (hy i).n)), ap (λ (w : Small). w.n) hl ∙ (λ i. (hd i).n *ℤ qe i))

pub rational_sum_numbers : (f : Whole) (a b : Fraction4) (n l : Small) → IsRational4 a → IsRational4 b
    → (n.n ≡ coefficient f.n a.d.n b.d.n a.a0.n b.a0.n) × (l.n ≡ a.d.n *ℤ quotient b.d.n (gcd (unsigned_abs a.d.n) (unsigned_abs b.d.n)))
    → (rational n.n ≡ numerators4 (sum f a b).value) × (l.n ≡ (sum f a b).value.d.n)
rational_sum_numbers f a b n l h k e =
    let g = gcd (unsigned_abs a.d.n) (unsigned_abs b.d.n) in
    let p = quotient a.d.n g in let q = quotient b.d.n g in
    let v = sum_value f a (record { n = q }) b (record { n = p }) in
    let zero : q *ℤ pos 0 +ℤ f.n *ℤ (p *ℤ pos 0) ≡ pos 0 = (λ i. times_zero q i +ℤ f.n *ℤ times_zero p i) ∙ (λ i. pos 0 +ℤ times_zero f.n i) in
    let c : (y z : ℤ) → y ≡ pos 0 → z ≡ pos 0 → pos 0 ≡ q *ℤ y +ℤ f.n *ℤ (p *ℤ z) = λ y z hy hz. sym ((λ i. q *ℤ hy i +ℤ f.n *ℤ (p *ℤ hz i)) ∙ zero) in
    ((λ i. e.0 i ∷ c a.a1.n b.a1.n h.a1 k.a1 i ∷ c a.a2.n b.a2.n h.a2 k.a2 i ∷ c a.a3.n b.a3.n h.a3 k.a3 i ∷ []) ∙ sym v.0, e.1 ∙ sym v.1)

pub rational_sum_answered : (f : Whole) (a b s : Fraction4) (n l : Small) → unsigned_abs f.n ≤ 8 → IsRational4 a → IsRational4 b
    → (n.n ≡ coefficient f.n a.d.n b.d.n a.a0.n b.a0.n) × (l.n ≡ a.d.n *ℤ quotient b.d.n (gcd (unsigned_abs a.d.n) (unsigned_abs b.d.n)))
    → numbers4 s ≡ lowest_terms (rational n.n) (unsigned_abs l.n) → IsNarrow4 s → IsAnswer (sum f a b) s
rational_sum_answered f a b s n l hf h k e low m =
    let x = rational_sum_numbers f a b n l h k e in
    sum_answered f a b s (rational n.n) l.n hf (rational_within a h) (rational_within b k) x.0 x.1 low m

-- inverses

multiple_all : (d : Whole) (p q : Product) → unsigned_abs d.n ≤ 2 ^ 11 → IsShortProduct p → IsShortProduct q → any_wide (multiple d p q).written ≡ false
unfolding multiple
multiple_all d p q h k l =
    let s = (sum_of (p ∷ q ∷ [])).value in
    let m : unsigned_abs s.n ≤ 2 ^ 60 = short_most (p ∷ q ∷ []) (more p (q ∷ []) k (more q [] l none)) in
    let b : unsigned_abs (d.n *ℤ s.n) ≤ 2 ^ 71 = omega (arith, factor_most (2 ^ 11) d.n s.n h, m) in
    then_all (sum_of (p ∷ q ∷ [])) (λ s. times d s) (two_all p q k l) (written_all (d.n *ℤ s.n) (2 ^ 71) b (lit≤ tt))

over_all : (a : Fraction4) (u v n : Whole) → IsWithin4 (2 ^ 11) (short_of a) → unsigned_abs u.n ≤ 2 ^ 28 → unsigned_abs v.n ≤ 2 ^ 28 → any_wide (inverse_over a u v n).written ≡ false
unfolding inverse_over
over_all a u v n h hu hv =
    let k : (z : ℤ) → unsigned_abs z ≤ 2 ^ 11 → unsigned_abs z ≤ 2 ^ 28 = λ z e. omega (arith, e) in
    let m : (f g : ℤ) (x y : Whole) → unsigned_abs f ≤ 8 → unsigned_abs g ≤ 8 → unsigned_abs x.n ≤ 2 ^ 11 → unsigned_abs y.n ≤ 2 ^ 11 → any_wide (multiple a.d (product_of f x u) (product_of g y v)).written ≡ false =
    λ f g x y hf hg hx hy. multiple_all a.d (product_of f x u) (product_of g y v) h.d (short f x u hf (k x.n hx) hu) (short g y v hg (k y.n hy) hv) in
    fraction_all
    (multiple a.d (product_of (pos 1) a.a0 u) (product_of (negsuc 1) a.a1 v)) (multiple a.d (product_of (pos 1) a.a1 u) (product_of (negsuc 0) a.a0 v))
    (multiple a.d (product_of (negsuc 0) a.a2 u) (product_of (pos 2) a.a3 v)) (multiple a.d (product_of (negsuc 0) a.a3 u) (product_of (pos 1) a.a2 v))
    (give n)
    (m (pos 1) (negsuc 1) a.a0 a.a1 (lit≤ tt) (lit≤ tt) h.a0 h.a1) (m (pos 1) (negsuc 0) a.a1 a.a0 (lit≤ tt) (lit≤ tt) h.a1 h.a0)
    (m (negsuc 0) (pos 2) a.a2 a.a3 (lit≤ tt) (lit≤ tt) h.a2 h.a3) (m (negsuc 0) (pos 1) a.a3 a.a2 (lit≤ tt) (lit≤ tt) h.a3 h.a2)
    refl

pub u_all : (a : Fraction4) → IsWithin4 (2 ^ 28) (short_of a) → any_wide (norm_u a).written ≡ false
unfolding norm_u
u_all a h = four_all _ _ _ _ (short (pos 1) a.a0 a.a0 (lit≤ tt) h.a0 h.a0) (short (pos 2) a.a1 a.a1 (lit≤ tt) h.a1 h.a1) (short (negsuc 2) a.a2 a.a2 (lit≤ tt) h.a2 h.a2) (short (negsuc 5) a.a3 a.a3 (lit≤ tt) h.a3 h.a3)

pub v_all : (a : Fraction4) → IsWithin4 (2 ^ 28) (short_of a) → any_wide (norm_v a).written ≡ false
unfolding norm_v
v_all a h = two_all _ _ (short (pos 2) a.a0 a.a1 (lit≤ tt) h.a0 h.a1) (short (negsuc 5) a.a2 a.a3 (lit≤ tt) h.a2 h.a3)

norm_all : (u v : Whole) → unsigned_abs u.n ≤ 2 ^ 28 → unsigned_abs v.n ≤ 2 ^ 28 → any_wide (norm u v).written ≡ false
unfolding norm
norm_all u v h k = two_all _ _ (short (pos 1) u u (lit≤ tt) h h) (short (negsuc 1) v v (lit≤ tt) k k)

inverse_all : (a : Fraction4) → IsWithin4 (2 ^ 11) (short_of a) → unsigned_abs (Fours.norm_u whole (four_of a)) ≤ 2 ^ 28 → unsigned_abs (Fours.norm_v whole (four_of a)) ≤ 2 ^ 28 → any_wide (inverse a).written ≡ false
unfolding inverse
inverse_all a h hu hv =
    let u = (norm_u a).value in let v = (norm_v a).value in
    let ku : unsigned_abs u.n ≤ 2 ^ 28 = subst (λ z. unsigned_abs z ≤ 2 ^ 28) (sym (u_value a)) hu in
    let kv : unsigned_abs v.n ≤ 2 ^ 28 = subst (λ z. unsigned_abs z ≤ 2 ^ 28) (sym (v_value a)) hv in
    let k : (z : ℤ) → unsigned_abs z ≤ 2 ^ 11 → unsigned_abs z ≤ 2 ^ 28 = λ z e. omega (arith, e) in
    let s : IsWithin4 (2 ^ 28) (short_of a) = record { d = k a.d.n h.d; a0 = k a.a0.n h.a0; a1 = k a.a1.n h.a1; a2 = k a.a2.n h.a2; a3 = k a.a3.n h.a3 } in
    then_all (norm_u a) (λ u. then (norm_v a) (λ v. then (norm u v) (λ n. inverse_over a u v n))) (u_all a s)
    (then_all (norm_v a) (λ v. then (norm u v) (λ n. inverse_over a u v n)) (v_all a s)
    (then_all (norm u v) (λ n. inverse_over a u v n) (norm_all u v ku kv) (over_all a u v (norm u v).value h ku kv)))

-- the same numerators and denominator make the same fraction
same_fraction : (r v : Fraction4) (c0 c1 c2 c3 d : ℤ) → r.a0.n ≡ c0 → r.a1.n ≡ c1 → r.a2.n ≡ c2 → r.a3.n ≡ c3 → r.d.n ≡ d → numerators4 v ≡ c0 ∷ c1 ∷ c2 ∷ c3 ∷ [] → v.d.n ≡ d → r ≡ v
same_fraction r v c0 c1 c2 c3 d h0 h1 h2 h3 hd e f =
    let part : (k : ℕ) → get_or (numerators4 v) k (pos 0) ≡ get_or (c0 ∷ c1 ∷ c2 ∷ c3 ∷ []) k (pos 0) = λ k. ap (λ xs. get_or xs k (pos 0)) e in
    λ i. record { d = record { n = (hd ∙ sym f) i }; a0 = record { n = (h0 ∙ sym (part 0)) i }; a1 = record { n = (h1 ∙ sym (part 1)) i }; a2 = record { n = (h2 ∙ sym (part 2)) i }; a3 = record { n = (h3 ∙ sym (part 3)) i } }

pub inverse_same : (a : Fraction4) (x r : Short4) → x ≡ short_of a → let u = Fours.norm_u whole (shorts x) in let v = Fours.norm_v whole (shorts x) in
    r.a0 ≡ over (x.d.n *ℤ (x.a0.n *ℤ u +ℤ neg_ℤ (pos 2 *ℤ (x.a1.n *ℤ v)))) → r.a1 ≡ over (x.d.n *ℤ (x.a1.n *ℤ u +ℤ neg_ℤ (pos 1 *ℤ (x.a0.n *ℤ v))))
    → r.a2 ≡ over (x.d.n *ℤ (neg_ℤ (x.a2.n *ℤ u) +ℤ pos 2 *ℤ (x.a3.n *ℤ v))) → r.a3 ≡ over (x.d.n *ℤ (neg_ℤ (x.a3.n *ℤ u) +ℤ pos 1 *ℤ (x.a2.n *ℤ v)))
    → r.d ≡ over (norm4 whole (shorts x)) → wide_of r ≡ (inverse a).value
inverse_same a x r hx e0 e1 e2 e3 ed =
    let w = inverse_value a in
    let u = Fours.norm_u whole (four_of a) in let v = Fours.norm_v whole (four_of a) in
    let one : (z : ℤ) → pos 1 *ℤ z ≡ z = whole_ring.mul_one in
    same_fraction (wide_of r) (inverse a).value
    (a.d.n *ℤ (a.a0.n *ℤ u +ℤ neg_ℤ (pos 2 *ℤ (a.a1.n *ℤ v)))) (a.d.n *ℤ (a.a1.n *ℤ u +ℤ neg_ℤ (a.a0.n *ℤ v)))
    (a.d.n *ℤ (neg_ℤ (a.a2.n *ℤ u) +ℤ pos 2 *ℤ (a.a3.n *ℤ v))) (a.d.n *ℤ (neg_ℤ (a.a3.n *ℤ u) +ℤ a.a2.n *ℤ v)) (norm4 whole (four_of a))
    (ap (λ (z : Small). z.n) e0 ∙ (λ i. (hx i).d.n *ℤ ((hx i).a0.n *ℤ Fours.norm_u whole (shorts (hx i)) +ℤ neg_ℤ (pos 2 *ℤ ((hx i).a1.n *ℤ Fours.norm_v whole (shorts (hx i)))))))
    (ap (λ (z : Small). z.n) e1 ∙ (λ i. (hx i).d.n *ℤ ((hx i).a1.n *ℤ Fours.norm_u whole (shorts (hx i)) +ℤ neg_ℤ (one ((hx i).a0.n *ℤ Fours.norm_v whole (shorts (hx i))) i))))
    (ap (λ (z : Small). z.n) e2 ∙ (λ i. (hx i).d.n *ℤ (neg_ℤ ((hx i).a2.n *ℤ Fours.norm_u whole (shorts (hx i))) +ℤ pos 2 *ℤ ((hx i).a3.n *ℤ Fours.norm_v whole (shorts (hx i))))))
    (ap (λ (z : Small). z.n) e3 ∙ (λ i. (hx i).d.n *ℤ (neg_ℤ ((hx i).a3.n *ℤ Fours.norm_u whole (shorts (hx i))) +ℤ one ((hx i).a2.n *ℤ Fours.norm_v whole (shorts (hx i))) i)))
    (ap (λ (z : Small). z.n) ed ∙ (λ i. norm4 whole (shorts (hx i)))) w.0 w.1

pub inverse_short : (a s : Fraction4) (x r t : Short4) → x ≡ short_of a → IsWithin4 (2 ^ 11) (short_of a) → unsigned_abs (Fours.norm_u whole (shorts x)) ≤ 2 ^ 28 → unsigned_abs (Fours.norm_v whole (shorts x)) ≤ 2 ^ 28
    → wide_of r ≡ (inverse a).value → t ≡ short_of (upright (wide_of r)) → numbers4 s ≡ lowest_terms (numerators t) (unsigned_abs t.d.n) → IsNarrow4 s
    → IsAnswered4 (inverse a).written (numerators4 (upright (inverse a).value)) (unsigned_abs (upright (inverse a).value).d.n) s
inverse_short a s x r t hx h hu hv e f l n =
    let ku = subst (λ (z : Short4). unsigned_abs (Fours.norm_u whole (shorts z)) ≤ 2 ^ 28) hx hu in
    let kv = subst (λ (z : Short4). unsigned_abs (Fours.norm_v whole (shorts z)) ≤ 2 ^ 28) hx hv in
    let k : t ≡ short_of (upright (inverse a).value) = f ∙ ap (λ (z : Fraction4). short_of (upright z)) e in
    record { written = inverse_all a h ku kv; lowest = l ∙ (λ i. lowest_terms (numerators (k i)) (unsigned_abs (k i).d.n)); narrow = n }

pub inverse_positive : (a : Fraction4) (r t : Short4) → wide_of r ≡ (inverse a).value → t ≡ short_of (upright (wide_of r)) → 0 < unsigned_abs (norm4 whole (four_of a)) → is_positive t.d.n ≡ true
inverse_positive a r t e f z =
    let n : (inverse a).value.d.n ≡ norm4 whole (four_of a) = (inverse_value a).1 in
    ap (λ (q : Short4). is_positive q.d.n) (f ∙ ap (λ (z : Fraction4). short_of (upright z)) e) ∙ upright_low (inverse a).value (subst (λ z. 0 < unsigned_abs z) (sym n) z)
