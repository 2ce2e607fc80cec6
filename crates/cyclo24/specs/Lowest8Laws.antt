-- That the short ways to a product and a sum give what the formulas do, and write nothing wide.
--
-- answered_by: what is reduced is the answer
-- product_ready, sum_ready: what is asked before reducing
-- rational_within: a rational number of short parts is short
-- product_answered, rational_product_answered, sum_answered, rational_sum_answered: the short ways
use Rattle.std.proofs.Common.{◌≡◌, ◌≤◌, ◌^◌, refl, sym, ap, ◌∙◌, subst, ℤ, pos, negsuc, ◌+ℤ◌, ◌*ℤ◌, List, [], ◌∷◌, true, false, Ok, lit≤, le_trans}
use Rattle.std.specs.Int.RustNames.{unsigned_abs}
use Rattle.cyclo24.specs.declared.whole.Whole.{Whole}
use Rattle.cyclo24.specs.declared.small.Small.{Small}
use Rattle.cyclo24.specs.declared.short8.Short8.{Short8}
use Rattle.cyclo24.specs.declared.fraction8.Fraction8.{Fraction8}
use Rattle.cyclo24.specs.declared.fraction8.High.{High}
use Rattle.cyclo24.specs.Gcd.{gcd, quotient, lowest_terms}
use Rattle.algebra.specs.Whole.{whole}
use Rattle.algebra.specs.WholeLaws.{whole_ring}
use Rattle.cyclo24.specs.Eight.{mul8, num8}
use Rattle.cyclo24.specs.EightLaws.{scaled8}
use Rattle.cyclo24.specs.EightNorm.{list8}
use Rattle.cyclo24.specs.Listed.{is_positive}
use Rattle.cyclo24.specs.Checked.{Checked, answer, any_wide, then}
use Rattle.cyclo24.specs.CheckedLaws.{answer_ok, quotient_below}
use Rattle.cyclo24.specs.ShortLaws.{then_all, times_narrow}
use Rattle.cyclo24.specs.DotLaws.{short_dot_all, short_dot_most, less_two_all, and_one_all}
use Rattle.cyclo24.specs.Written8.{numbers8, numerators8, eight_of, IsNarrow8, num, dot, fraction8, joined, sum_over, sum}
use Rattle.cyclo24.specs.Written8Products.{high_sums, low, product}
use Rattle.cyclo24.specs.Written8ValuesLaws.{product_value, sum_value, product_narrow, sum_narrow}
use Rattle.cyclo24.specs.Lowest4Laws.{product_positive, low_sum_positive, times_zero}
use Rattle.cyclo24.specs.Short8.{short_of, numerators, IsWithin8, IsRational8, rational}
use Rattle.cyclo24.specs.Lowest8.{IsAnswered8}

-- the answer of a computation, in lowest terms
abbrev pub IsAnswer : Checked Fraction8 → Fraction8 → Type 0
IsAnswer m s = IsAnswered8 m.written (numerators8 m.value) (unsigned_abs m.value.d.n) s

-- what is reduced is the answer
pub answered_by : (m : Checked Fraction8) (r s : Fraction8) → answer m ≡ Ok r → numbers8 s ≡ lowest_terms (numerators8 r) (unsigned_abs r.d.n) → IsNarrow8 s → IsAnswer m s
answered_by m r s e l n =
    let f = answer_ok m r e in
    record { written = f.0; lowest = l ∙ ap (λ (q : Fraction8). lowest_terms (numerators8 q) (unsigned_abs q.d.n)) (sym f.1); narrow = n }

-- the long ways

pub product_ready : (a b r : Fraction8) → is_positive a.d.n ≡ true → is_positive b.d.n ≡ true → answer (product a b) ≡ Ok r → IsNarrow8 r × (is_positive r.d.n ≡ true)
product_ready a b r h k e =
    let f = answer_ok (product a b) r e in
    let d : r.d.n ≡ a.d.n *ℤ b.d.n = ap (λ (s : Fraction8). s.d.n) (sym f.1) ∙ (product_value a b).1 in
    (subst IsNarrow8 f.1 (product_narrow a b f.0), ap is_positive d ∙ product_positive a.d.n b.d.n h k)

pub sum_ready : (a b r : Fraction8) → is_positive a.d.n ≡ true → is_positive b.d.n ≡ true → answer (sum a b) ≡ Ok r → IsNarrow8 r × (is_positive r.d.n ≡ true)
sum_ready a b r h k e =
    let g = gcd (unsigned_abs a.d.n) (unsigned_abs b.d.n) in
    let q = num (quotient b.d.n g) in
    let p = num (quotient a.d.n g) in
    let t = answer_ok (sum a b) r e in
    let d : r.d.n ≡ a.d.n *ℤ quotient b.d.n g = ap (λ (s : Fraction8). s.d.n) (sym t.1) ∙ (sum_value a q b p).1 in
    (subst IsNarrow8 t.1 (sum_narrow a q b p t.0), ap is_positive d ∙ low_sum_positive a.d.n b.d.n h k)

-- nothing wide in short formulas

fraction_all : (c0 c1 c2 c3 c4 c5 c6 c7 d : Checked Whole) → any_wide c0.written ≡ false → any_wide c1.written ≡ false → any_wide c2.written ≡ false → any_wide c3.written ≡ false → any_wide c4.written ≡ false → any_wide c5.written ≡ false → any_wide c6.written ≡ false → any_wide c7.written ≡ false → any_wide d.written ≡ false → any_wide (fraction8 c0 c1 c2 c3 c4 c5 c6 c7 d).written ≡ false
unfolding fraction8
fraction_all c0 c1 c2 c3 c4 c5 c6 c7 d h0 h1 h2 h3 h4 h5 h6 h7 hd = then_all c0 _ h0 (then_all c1 _ h1 (then_all c2 _ h2 (then_all c3 _ h3 (then_all c4 _ h4 (then_all c5 _ h5 (then_all c6 _ h6 (then_all c7 _ h7 (then_all d _ hd refl))))))))

high_all : (a b : Fraction8) → IsWithin8 (2 ^ 28) (short_of a) → IsWithin8 (2 ^ 28) (short_of b) → any_wide (high_sums a b).written ≡ false
unfolding high_sums
high_all a b h k = then_all (dot (a.c1 ∷ a.c2 ∷ a.c3 ∷ a.c4 ∷ a.c5 ∷ a.c6 ∷ a.c7 ∷ []) (b.c7 ∷ b.c6 ∷ b.c5 ∷ b.c4 ∷ b.c3 ∷ b.c2 ∷ b.c1 ∷ [])) _ (short_dot_all (a.c1 ∷ a.c2 ∷ a.c3 ∷ a.c4 ∷ a.c5 ∷ a.c6 ∷ a.c7 ∷ []) (b.c7 ∷ b.c6 ∷ b.c5 ∷ b.c4 ∷ b.c3 ∷ b.c2 ∷ b.c1 ∷ []) (lit≤ tt) (h.c1, (h.c2, (h.c3, (h.c4, (h.c5, (h.c6, (h.c7, tt))))))) (k.c7, (k.c6, (k.c5, (k.c4, (k.c3, (k.c2, (k.c1, tt)))))))) (then_all (dot (a.c2 ∷ a.c3 ∷ a.c4 ∷ a.c5 ∷ a.c6 ∷ a.c7 ∷ []) (b.c7 ∷ b.c6 ∷ b.c5 ∷ b.c4 ∷ b.c3 ∷ b.c2 ∷ [])) _ (short_dot_all (a.c2 ∷ a.c3 ∷ a.c4 ∷ a.c5 ∷ a.c6 ∷ a.c7 ∷ []) (b.c7 ∷ b.c6 ∷ b.c5 ∷ b.c4 ∷ b.c3 ∷ b.c2 ∷ []) (lit≤ tt) (h.c2, (h.c3, (h.c4, (h.c5, (h.c6, (h.c7, tt)))))) (k.c7, (k.c6, (k.c5, (k.c4, (k.c3, (k.c2, tt))))))) (then_all (dot (a.c3 ∷ a.c4 ∷ a.c5 ∷ a.c6 ∷ a.c7 ∷ []) (b.c7 ∷ b.c6 ∷ b.c5 ∷ b.c4 ∷ b.c3 ∷ [])) _ (short_dot_all (a.c3 ∷ a.c4 ∷ a.c5 ∷ a.c6 ∷ a.c7 ∷ []) (b.c7 ∷ b.c6 ∷ b.c5 ∷ b.c4 ∷ b.c3 ∷ []) (lit≤ tt) (h.c3, (h.c4, (h.c5, (h.c6, (h.c7, tt))))) (k.c7, (k.c6, (k.c5, (k.c4, (k.c3, tt)))))) (then_all (dot (a.c4 ∷ a.c5 ∷ a.c6 ∷ a.c7 ∷ []) (b.c7 ∷ b.c6 ∷ b.c5 ∷ b.c4 ∷ [])) _ (short_dot_all (a.c4 ∷ a.c5 ∷ a.c6 ∷ a.c7 ∷ []) (b.c7 ∷ b.c6 ∷ b.c5 ∷ b.c4 ∷ []) (lit≤ tt) (h.c4, (h.c5, (h.c6, (h.c7, tt)))) (k.c7, (k.c6, (k.c5, (k.c4, tt))))) (then_all (dot (a.c5 ∷ a.c6 ∷ a.c7 ∷ []) (b.c7 ∷ b.c6 ∷ b.c5 ∷ [])) _ (short_dot_all (a.c5 ∷ a.c6 ∷ a.c7 ∷ []) (b.c7 ∷ b.c6 ∷ b.c5 ∷ []) (lit≤ tt) (h.c5, (h.c6, (h.c7, tt))) (k.c7, (k.c6, (k.c5, tt)))) (then_all (dot (a.c6 ∷ a.c7 ∷ []) (b.c7 ∷ b.c6 ∷ [])) _ (short_dot_all (a.c6 ∷ a.c7 ∷ []) (b.c7 ∷ b.c6 ∷ []) (lit≤ tt) (h.c6, (h.c7, tt)) (k.c7, (k.c6, tt))) (then_all (dot (a.c7 ∷ []) (b.c7 ∷ [])) _ (short_dot_all (a.c7 ∷ []) (b.c7 ∷ []) (lit≤ tt) (h.c7, tt) (k.c7, tt)) (refl)))))))

most8 : (a b : Fraction8) → IsWithin8 (2 ^ 28) (short_of a) → IsWithin8 (2 ^ 28) (short_of b) → unsigned_abs (high_sums a b).value.s8.n ≤ 2 ^ 59
unfolding high_sums then
most8 a b h k = short_dot_most (a.c1 ∷ a.c2 ∷ a.c3 ∷ a.c4 ∷ a.c5 ∷ a.c6 ∷ a.c7 ∷ []) (b.c7 ∷ b.c6 ∷ b.c5 ∷ b.c4 ∷ b.c3 ∷ b.c2 ∷ b.c1 ∷ []) (lit≤ tt) (h.c1, (h.c2, (h.c3, (h.c4, (h.c5, (h.c6, (h.c7, tt))))))) (k.c7, (k.c6, (k.c5, (k.c4, (k.c3, (k.c2, (k.c1, tt)))))))

most9 : (a b : Fraction8) → IsWithin8 (2 ^ 28) (short_of a) → IsWithin8 (2 ^ 28) (short_of b) → unsigned_abs (high_sums a b).value.s9.n ≤ 2 ^ 59
unfolding high_sums then
most9 a b h k = short_dot_most (a.c2 ∷ a.c3 ∷ a.c4 ∷ a.c5 ∷ a.c6 ∷ a.c7 ∷ []) (b.c7 ∷ b.c6 ∷ b.c5 ∷ b.c4 ∷ b.c3 ∷ b.c2 ∷ []) (lit≤ tt) (h.c2, (h.c3, (h.c4, (h.c5, (h.c6, (h.c7, tt)))))) (k.c7, (k.c6, (k.c5, (k.c4, (k.c3, (k.c2, tt))))))

most10 : (a b : Fraction8) → IsWithin8 (2 ^ 28) (short_of a) → IsWithin8 (2 ^ 28) (short_of b) → unsigned_abs (high_sums a b).value.s10.n ≤ 2 ^ 59
unfolding high_sums then
most10 a b h k = short_dot_most (a.c3 ∷ a.c4 ∷ a.c5 ∷ a.c6 ∷ a.c7 ∷ []) (b.c7 ∷ b.c6 ∷ b.c5 ∷ b.c4 ∷ b.c3 ∷ []) (lit≤ tt) (h.c3, (h.c4, (h.c5, (h.c6, (h.c7, tt))))) (k.c7, (k.c6, (k.c5, (k.c4, (k.c3, tt)))))

most11 : (a b : Fraction8) → IsWithin8 (2 ^ 28) (short_of a) → IsWithin8 (2 ^ 28) (short_of b) → unsigned_abs (high_sums a b).value.s11.n ≤ 2 ^ 59
unfolding high_sums then
most11 a b h k = short_dot_most (a.c4 ∷ a.c5 ∷ a.c6 ∷ a.c7 ∷ []) (b.c7 ∷ b.c6 ∷ b.c5 ∷ b.c4 ∷ []) (lit≤ tt) (h.c4, (h.c5, (h.c6, (h.c7, tt)))) (k.c7, (k.c6, (k.c5, (k.c4, tt))))

most12 : (a b : Fraction8) → IsWithin8 (2 ^ 28) (short_of a) → IsWithin8 (2 ^ 28) (short_of b) → unsigned_abs (high_sums a b).value.s12.n ≤ 2 ^ 59
unfolding high_sums then
most12 a b h k = short_dot_most (a.c5 ∷ a.c6 ∷ a.c7 ∷ []) (b.c7 ∷ b.c6 ∷ b.c5 ∷ []) (lit≤ tt) (h.c5, (h.c6, (h.c7, tt))) (k.c7, (k.c6, (k.c5, tt)))

most13 : (a b : Fraction8) → IsWithin8 (2 ^ 28) (short_of a) → IsWithin8 (2 ^ 28) (short_of b) → unsigned_abs (high_sums a b).value.s13.n ≤ 2 ^ 59
unfolding high_sums then
most13 a b h k = short_dot_most (a.c6 ∷ a.c7 ∷ []) (b.c7 ∷ b.c6 ∷ []) (lit≤ tt) (h.c6, (h.c7, tt)) (k.c7, (k.c6, tt))

most14 : (a b : Fraction8) → IsWithin8 (2 ^ 28) (short_of a) → IsWithin8 (2 ^ 28) (short_of b) → unsigned_abs (high_sums a b).value.s14.n ≤ 2 ^ 59
unfolding high_sums then
most14 a b h k = short_dot_most (a.c7 ∷ []) (b.c7 ∷ []) (lit≤ tt) (h.c7, tt) (k.c7, tt)

low_all : (a b : Fraction8) (g : High) → IsWithin8 (2 ^ 28) (short_of a) → IsWithin8 (2 ^ 28) (short_of b)
    → unsigned_abs g.s8.n ≤ 2 ^ 59 → unsigned_abs g.s9.n ≤ 2 ^ 59 → unsigned_abs g.s10.n ≤ 2 ^ 59 → unsigned_abs g.s11.n ≤ 2 ^ 59 → unsigned_abs g.s12.n ≤ 2 ^ 59 → unsigned_abs g.s13.n ≤ 2 ^ 59 → unsigned_abs g.s14.n ≤ 2 ^ 59 → any_wide (low a b g).written ≡ false
unfolding low
low_all a b g h k e8 e9 e10 e11 e12 e13 e14 =
    fraction_all _ _ _ _ _ _ _ _ _
    (less_two_all (a.c0 ∷ []) (b.c0 ∷ []) g.s8 g.s12 (lit≤ tt) (h.c0, tt) (k.c0, tt) e8 e12)
    (less_two_all (a.c0 ∷ a.c1 ∷ []) (b.c1 ∷ b.c0 ∷ []) g.s9 g.s13 (lit≤ tt) (h.c0, (h.c1, tt)) (k.c1, (k.c0, tt)) e9 e13)
    (less_two_all (a.c0 ∷ a.c1 ∷ a.c2 ∷ []) (b.c2 ∷ b.c1 ∷ b.c0 ∷ []) g.s10 g.s14 (lit≤ tt) (h.c0, (h.c1, (h.c2, tt))) (k.c2, (k.c1, (k.c0, tt))) e10 e14)
    (and_one_all (a.c0 ∷ a.c1 ∷ a.c2 ∷ a.c3 ∷ []) (b.c3 ∷ b.c2 ∷ b.c1 ∷ b.c0 ∷ []) (num (negsuc 0)) g.s11 (lit≤ tt) (h.c0, (h.c1, (h.c2, (h.c3, tt)))) (k.c3, (k.c2, (k.c1, (k.c0, tt)))) (lit≤ tt) e11)
    (and_one_all (a.c0 ∷ a.c1 ∷ a.c2 ∷ a.c3 ∷ a.c4 ∷ []) (b.c4 ∷ b.c3 ∷ b.c2 ∷ b.c1 ∷ b.c0 ∷ []) (num (pos 1)) g.s8 (lit≤ tt) (h.c0, (h.c1, (h.c2, (h.c3, (h.c4, tt))))) (k.c4, (k.c3, (k.c2, (k.c1, (k.c0, tt))))) (lit≤ tt) e8)
    (and_one_all (a.c0 ∷ a.c1 ∷ a.c2 ∷ a.c3 ∷ a.c4 ∷ a.c5 ∷ []) (b.c5 ∷ b.c4 ∷ b.c3 ∷ b.c2 ∷ b.c1 ∷ b.c0 ∷ []) (num (pos 1)) g.s9 (lit≤ tt) (h.c0, (h.c1, (h.c2, (h.c3, (h.c4, (h.c5, tt)))))) (k.c5, (k.c4, (k.c3, (k.c2, (k.c1, (k.c0, tt)))))) (lit≤ tt) e9)
    (and_one_all (a.c0 ∷ a.c1 ∷ a.c2 ∷ a.c3 ∷ a.c4 ∷ a.c5 ∷ a.c6 ∷ []) (b.c6 ∷ b.c5 ∷ b.c4 ∷ b.c3 ∷ b.c2 ∷ b.c1 ∷ b.c0 ∷ []) (num (pos 1)) g.s10 (lit≤ tt) (h.c0, (h.c1, (h.c2, (h.c3, (h.c4, (h.c5, (h.c6, tt))))))) (k.c6, (k.c5, (k.c4, (k.c3, (k.c2, (k.c1, (k.c0, tt))))))) (lit≤ tt) e10)
    (and_one_all (a.c0 ∷ a.c1 ∷ a.c2 ∷ a.c3 ∷ a.c4 ∷ a.c5 ∷ a.c6 ∷ a.c7 ∷ []) (b.c7 ∷ b.c6 ∷ b.c5 ∷ b.c4 ∷ b.c3 ∷ b.c2 ∷ b.c1 ∷ b.c0 ∷ []) (num (pos 1)) g.s11 (lit≤ tt) (h.c0, (h.c1, (h.c2, (h.c3, (h.c4, (h.c5, (h.c6, (h.c7, tt)))))))) (k.c7, (k.c6, (k.c5, (k.c4, (k.c3, (k.c2, (k.c1, (k.c0, tt)))))))) (lit≤ tt) e11)
    (times_narrow a.d b.d h.d k.d)

product_all : (a b : Fraction8) → IsWithin8 (2 ^ 28) (short_of a) → IsWithin8 (2 ^ 28) (short_of b) → any_wide (product a b).written ≡ false
unfolding product
product_all a b h k =
    let g = (high_sums a b).value in
    then_all (high_sums a b) (λ g. low a b g) (high_all a b h k) (low_all a b g h k (most8 a b h k) (most9 a b h k) (most10 a b h k) (most11 a b h k) (most12 a b h k) (most13 a b h k) (most14 a b h k))

joined_all : (x p y q : Whole) → unsigned_abs x.n ≤ 2 ^ 28 → unsigned_abs p.n ≤ 2 ^ 28 → unsigned_abs y.n ≤ 2 ^ 28 → unsigned_abs q.n ≤ 2 ^ 28 → any_wide (joined x p y q).written ≡ false
joined_all x p y q hx hp hy hq = short_dot_all (x ∷ y ∷ []) (p ∷ q ∷ []) (lit≤ tt) (hx, (hy, tt)) (hp, (hq, tt))

sum_all : (a b : Fraction8) → IsWithin8 (2 ^ 28) (short_of a) → IsWithin8 (2 ^ 28) (short_of b) → any_wide (sum a b).written ≡ false
unfolding sum_over
sum_all a b h k =
    let g = gcd (unsigned_abs a.d.n) (unsigned_abs b.d.n) in
    let q = num (quotient b.d.n g) in
    let p = num (quotient a.d.n g) in
    let hq : unsigned_abs (quotient b.d.n g) ≤ 2 ^ 28 = le_trans (quotient_below b.d.n g) k.d in
    let hp : unsigned_abs (quotient a.d.n g) ≤ 2 ^ 28 = le_trans (quotient_below a.d.n g) h.d in
    fraction_all _ _ _ _ _ _ _ _ _
    (joined_all a.c0 q b.c0 p h.c0 hq k.c0 hp)
    (joined_all a.c1 q b.c1 p h.c1 hq k.c1 hp)
    (joined_all a.c2 q b.c2 p h.c2 hq k.c2 hp)
    (joined_all a.c3 q b.c3 p h.c3 hq k.c3 hp)
    (joined_all a.c4 q b.c4 p h.c4 hq k.c4 hp)
    (joined_all a.c5 q b.c5 p h.c5 hq k.c5 hp)
    (joined_all a.c6 q b.c6 p h.c6 hq k.c6 hp)
    (joined_all a.c7 q b.c7 p h.c7 hq k.c7 hp)
    (times_narrow a.d q h.d hq)

-- the short ways

pub product_answered : (a b s : Fraction8) (r : Short8) → IsWithin8 (2 ^ 28) (short_of a) → IsWithin8 (2 ^ 28) (short_of b)
    → numerators r ≡ list8 (mul8 whole (eight_of a) (eight_of b)) → r.d.n ≡ a.d.n *ℤ b.d.n → numbers8 s ≡ lowest_terms (numerators r) (unsigned_abs r.d.n) → IsNarrow8 s → IsAnswer (product a b) s
product_answered a b s r h k x d l n =
    let v = product_value a b in
    record { written = product_all a b h k; lowest = l ∙ (λ i. lowest_terms ((x ∙ sym v.0) i) (unsigned_abs ((d ∙ sym v.1) i))); narrow = n }

pub sum_answered : (a b s : Fraction8) (xs : List ℤ) (d : ℤ) → IsWithin8 (2 ^ 28) (short_of a) → IsWithin8 (2 ^ 28) (short_of b)
    → xs ≡ numerators8 (sum a b).value → d ≡ (sum a b).value.d.n → numbers8 s ≡ lowest_terms xs (unsigned_abs d) → IsNarrow8 s → IsAnswer (sum a b) s
sum_answered a b s xs d h k x e l n = record { written = sum_all a b h k; lowest = l ∙ (λ i. lowest_terms (x i) (unsigned_abs (e i))); narrow = n }

zero_within : (z : ℤ) → z ≡ pos 0 → unsigned_abs z ≤ 2 ^ 28
zero_within z e = subst (λ (y : ℤ). unsigned_abs y ≤ 2 ^ 28) (sym e) (lit≤ tt)

-- a rational number of short parts is short
pub rational_within : (a : Fraction8) → IsRational8 a → IsWithin8 (2 ^ 28) (short_of a)
rational_within a h = record { d = h.d; c0 = h.c0; c1 = zero_within a.c1.n h.c1; c2 = zero_within a.c2.n h.c2; c3 = zero_within a.c3.n h.c3; c4 = zero_within a.c4.n h.c4; c5 = zero_within a.c5.n h.c5; c6 = zero_within a.c6.n h.c6; c7 = zero_within a.c7.n h.c7 }

eight_of-rational : (a : Fraction8) → IsRational8 a → eight_of a ≡ num8 whole a.c0.n
eight_of-rational a h = λ i. record { c0 = a.c0.n; c1 = h.c1 i; c2 = h.c2 i; c3 = h.c3 i; c4 = h.c4 i; c5 = h.c5 i; c6 = h.c6 i; c7 = h.c7 i }

products-rational : (a b : Fraction8) → IsRational8 a → IsRational8 b → rational (a.c0.n *ℤ b.c0.n) ≡ list8 (mul8 whole (eight_of a) (eight_of b))
products-rational a b h k =
    let x = a.c0.n in let y = b.c0.n in let o = times_zero x in
    sym ((λ i. list8 (mul8 whole (eight_of-rational a h i) (eight_of-rational b k i))) ∙ ap list8 (scaled8 whole whole_ring x (num8 whole y)) ∙ (λ i. (x *ℤ y) ∷ o i ∷ o i ∷ o i ∷ o i ∷ o i ∷ o i ∷ o i ∷ []))

pub rational_product_answered : (a b s : Fraction8) (n d : Small) → IsRational8 a → IsRational8 b → n ≡ record { n = a.c0.n *ℤ b.c0.n } → d ≡ record { n = a.d.n *ℤ b.d.n }
    → numbers8 s ≡ lowest_terms (rational n.n) (unsigned_abs d.n) → IsNarrow8 s → IsAnswer (product a b) s
rational_product_answered a b s n d h k e f l m =
    let v = product_value a b in
    let x : rational n.n ≡ list8 (mul8 whole (eight_of a) (eight_of b)) = ap (λ (w : Small). rational w.n) e ∙ products-rational a b h k in
    record { written = product_all a b (rational_within a h) (rational_within b k); lowest = l ∙ (λ i. lowest_terms ((x ∙ sym v.0) i) (unsigned_abs ((ap (λ (w : Small). w.n) f ∙ sym v.1) i))); narrow = m }

-- sums

abbrev coefficient : ℤ → ℤ → ℤ → ℤ → ℤ
coefficient d e x y = let g = gcd (unsigned_abs d) (unsigned_abs e) in quotient e g *ℤ x +ℤ quotient d g *ℤ y

abbrev over : ℤ → Small
over z = record { n = z }

pub sum_numbers : (a b : Fraction8) (x y r : Short8) → x ≡ short_of a → y ≡ short_of b
    → r.c0 ≡ over (coefficient x.d.n y.d.n x.c0.n y.c0.n)
    → r.c1 ≡ over (coefficient x.d.n y.d.n x.c1.n y.c1.n)
    → r.c2 ≡ over (coefficient x.d.n y.d.n x.c2.n y.c2.n)
    → r.c3 ≡ over (coefficient x.d.n y.d.n x.c3.n y.c3.n)
    → r.c4 ≡ over (coefficient x.d.n y.d.n x.c4.n y.c4.n)
    → r.c5 ≡ over (coefficient x.d.n y.d.n x.c5.n y.c5.n)
    → r.c6 ≡ over (coefficient x.d.n y.d.n x.c6.n y.c6.n)
    → r.c7 ≡ over (coefficient x.d.n y.d.n x.c7.n y.c7.n)
    → r.d ≡ over (x.d.n *ℤ quotient y.d.n (gcd (unsigned_abs x.d.n) (unsigned_abs y.d.n)))
    → (numerators r ≡ numerators8 (sum a b).value) × (r.d.n ≡ (sum a b).value.d.n)
sum_numbers a b x y r hx hy e0 e1 e2 e3 e4 e5 e6 e7 ed =
    let g = gcd (unsigned_abs a.d.n) (unsigned_abs b.d.n) in
    let v = sum_value a (num (quotient b.d.n g)) b (num (quotient a.d.n g)) in
    let c0 = e0 ∙ (λ i. over (coefficient (hx i).d.n (hy i).d.n (hx i).c0.n (hy i).c0.n)) in
    let c1 = e1 ∙ (λ i. over (coefficient (hx i).d.n (hy i).d.n (hx i).c1.n (hy i).c1.n)) in
    let c2 = e2 ∙ (λ i. over (coefficient (hx i).d.n (hy i).d.n (hx i).c2.n (hy i).c2.n)) in
    let c3 = e3 ∙ (λ i. over (coefficient (hx i).d.n (hy i).d.n (hx i).c3.n (hy i).c3.n)) in
    let c4 = e4 ∙ (λ i. over (coefficient (hx i).d.n (hy i).d.n (hx i).c4.n (hy i).c4.n)) in
    let c5 = e5 ∙ (λ i. over (coefficient (hx i).d.n (hy i).d.n (hx i).c5.n (hy i).c5.n)) in
    let c6 = e6 ∙ (λ i. over (coefficient (hx i).d.n (hy i).d.n (hx i).c6.n (hy i).c6.n)) in
    let c7 = e7 ∙ (λ i. over (coefficient (hx i).d.n (hy i).d.n (hx i).c7.n (hy i).c7.n)) in
    let d = ed ∙ (λ i. over ((hx i).d.n *ℤ quotient (hy i).d.n (gcd (unsigned_abs (hx i).d.n) (unsigned_abs (hy i).d.n)))) in
    ((λ i. (c0 i).n ∷ (c1 i).n ∷ (c2 i).n ∷ (c3 i).n ∷ (c4 i).n ∷ (c5 i).n ∷ (c6 i).n ∷ (c7 i).n ∷ []) ∙ sym v.0, (λ i. (d i).n) ∙ sym v.1)

pub sum_low_positive : (a b : Fraction8) (x y r : Short8) → x ≡ short_of a → y ≡ short_of b → is_positive a.d.n ≡ true → is_positive b.d.n ≡ true
    → r.d ≡ over (x.d.n *ℤ quotient y.d.n (gcd (unsigned_abs x.d.n) (unsigned_abs y.d.n))) → is_positive r.d.n ≡ true
sum_low_positive a b x y r hx hy p q ed =
    let d = ed ∙ (λ i. over ((hx i).d.n *ℤ quotient (hy i).d.n (gcd (unsigned_abs (hx i).d.n) (unsigned_abs (hy i).d.n)))) in
    ap (λ (w : Small). is_positive w.n) d ∙ low_sum_positive a.d.n b.d.n p q

-- the numbers of a sum of rational numbers, by what the calls gave
pub rational_numbers : (a b : Fraction8) (d e g p q x y n l : Small) → d ≡ over a.d.n → e ≡ over b.d.n → g ≡ over (pos (gcd (unsigned_abs d.n) (unsigned_abs e.n)))
    → p ≡ over (quotient d.n (unsigned_abs g.n)) → q ≡ over (quotient e.n (unsigned_abs g.n)) → x ≡ over a.c0.n → y ≡ over b.c0.n
    → n ≡ over (q.n *ℤ x.n +ℤ p.n *ℤ y.n) → l ≡ over (d.n *ℤ q.n)
    → (n.n ≡ coefficient a.d.n b.d.n a.c0.n b.c0.n) × (l.n ≡ a.d.n *ℤ quotient b.d.n (gcd (unsigned_abs a.d.n) (unsigned_abs b.d.n)))
rational_numbers a b d e g p q x y n l hd he hg hp hq hx hy hn hl =
    let k = gcd (unsigned_abs a.d.n) (unsigned_abs b.d.n) in
    let ge : unsigned_abs g.n ≡ k = ap (λ (w : Small). unsigned_abs w.n) hg ∙ (λ i. gcd (unsigned_abs (hd i).n) (unsigned_abs (he i).n)) in
    let pe : p.n ≡ quotient a.d.n k = ap (λ (w : Small). w.n) hp ∙ (λ i. quotient (hd i).n (ge i)) in
    let qe : q.n ≡ quotient b.d.n k = ap (λ (w : Small). w.n) hq ∙ (λ i. quotient (he i).n (ge i)) in
    (ap (λ (w : Small). w.n) hn ∙ (λ i. qe i *ℤ (hx i).n +ℤ pe i *ℤ (hy i).n), ap (λ (w : Small). w.n) hl ∙ (λ i. (hd i).n *ℤ qe i))

pub rational_sum_answered : (a b s : Fraction8) (n l : Small) → IsRational8 a → IsRational8 b
    → (n.n ≡ coefficient a.d.n b.d.n a.c0.n b.c0.n) × (l.n ≡ a.d.n *ℤ quotient b.d.n (gcd (unsigned_abs a.d.n) (unsigned_abs b.d.n)))
    → numbers8 s ≡ lowest_terms (rational n.n) (unsigned_abs l.n) → IsNarrow8 s → IsAnswer (sum a b) s
rational_sum_answered a b s n l h k e low m =
    let g = gcd (unsigned_abs a.d.n) (unsigned_abs b.d.n) in
    let p = quotient a.d.n g in let q = quotient b.d.n g in
    let v = sum_value a (num q) b (num p) in
    let zero : q *ℤ pos 0 +ℤ p *ℤ pos 0 ≡ pos 0 = λ i. times_zero q i +ℤ times_zero p i in
    let c : (y z : ℤ) → y ≡ pos 0 → z ≡ pos 0 → pos 0 ≡ q *ℤ y +ℤ p *ℤ z = λ y z hy hz. sym ((λ i. q *ℤ hy i +ℤ p *ℤ hz i) ∙ zero) in
    let x : rational n.n ≡ numerators8 (sum a b).value = (λ i. e.0 i ∷ c a.c1.n b.c1.n h.c1 k.c1 i ∷ c a.c2.n b.c2.n h.c2 k.c2 i ∷ c a.c3.n b.c3.n h.c3 k.c3 i ∷ c a.c4.n b.c4.n h.c4 k.c4 i ∷ c a.c5.n b.c5.n h.c5 k.c5 i ∷ c a.c6.n b.c6.n h.c6 k.c6 i ∷ c a.c7.n b.c7.n h.c7 k.c7 i ∷ []) ∙ sym v.0 in
    sum_answered a b s (rational n.n) l.n (rational_within a h) (rational_within b k) x (e.1 ∙ sym v.1) low m
