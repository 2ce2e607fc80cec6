-- In sums and products of short values no written number is wide.
use Rattle.std.proofs.Common.{◌≡◌, ◌≤◌, ◌^◌, ◌+◌, ◌*◌, ℕ, zero, suc, refl, sym, ap, ◌∙◌, arith, ℤ, pos, List, [], ◌∷◌, Bool, true, false, not, get_or, lit≤, le_trans, ltb, if◌then◌else◌}
use Rattle.std.specs.Int.RustNames.{unsigned_abs}
use Rattle.std.specs.List.{list_all}
use Rattle.algebra.specs.SolveLaws.{by_test}
use Rattle.cyclo24.specs.declared.whole.Whole.{Whole}
use Rattle.cyclo24.specs.declared.fraction4.Fraction4.{Fraction4}
use Rattle.cyclo24.specs.declared.short_k24.ShortK24.{ShortK24}
use Rattle.cyclo24.specs.BoolLaws.{and_left, and_right, and_both}
use Rattle.cyclo24.specs.Gcd.{gcd, quotient}
use Rattle.cyclo24.specs.Checked.{any_wide, times, product_of}
use Rattle.cyclo24.specs.CheckedLaws.{quotient_below}
use Rattle.cyclo24.specs.Short.{none, more}
use Rattle.cyclo24.specs.ShortLaws.{short_narrow, times_narrow}
use Rattle.cyclo24.specs.Short4.{short_of, IsWithin4}
use Rattle.cyclo24.specs.Long.{is_short, is_long}
use Rattle.cyclo24.specs.LongLaws.{long_is, short_below, below_short}
use Rattle.cyclo24.specs.Written4.{fraction_of, product0, product1, product2, product3, product, joined, sum_over, sum}
use Rattle.cyclo24.specs.Lowest4Laws.{fraction_all, short, two_all}
use Rattle.cyclo24.specs.Packed4.{IsPacked4}
use Rattle.cyclo24.specs.ExactK24.{Exact24, k24, k24_laws}
use Rattle.cyclo24.specs.K24Laws.{zero24}
use Rattle.cyclo24.specs.ShortK24.{exact_short}
use Rattle.lin_alg.specs.Rows.{vector}
use Rattle.lin_alg.specs.Matrix.{MatrixView, entry}

-- the formulas

product_all : (a b : Fraction4) → IsWithin4 (2 ^ 28) (short_of a) → IsWithin4 (2 ^ 28) (short_of b) → any_wide (product a b).written ≡ false
unfolding product product0 product1 product2 product3
product_all a b h k =
    fraction_all (product0 a b) (product1 a b) (product2 a b) (product3 a b) (times a.d b.d)
    (short_narrow _ (lit≤ tt) (more _ _ (short (pos 1) a.a0 b.a0 (lit≤ tt) h.a0 k.a0) (more _ _ (short (pos 2) a.a1 b.a1 (lit≤ tt) h.a1 k.a1) (more _ _ (short (pos 3) a.a2 b.a2 (lit≤ tt) h.a2 k.a2) (more _ _ (short (pos 6) a.a3 b.a3 (lit≤ tt) h.a3 k.a3) none)))))
    (short_narrow _ (lit≤ tt) (more _ _ (short (pos 1) a.a0 b.a1 (lit≤ tt) h.a0 k.a1) (more _ _ (short (pos 1) a.a1 b.a0 (lit≤ tt) h.a1 k.a0) (more _ _ (short (pos 3) a.a2 b.a3 (lit≤ tt) h.a2 k.a3) (more _ _ (short (pos 3) a.a3 b.a2 (lit≤ tt) h.a3 k.a2) none)))))
    (short_narrow _ (lit≤ tt) (more _ _ (short (pos 1) a.a0 b.a2 (lit≤ tt) h.a0 k.a2) (more _ _ (short (pos 1) a.a2 b.a0 (lit≤ tt) h.a2 k.a0) (more _ _ (short (pos 2) a.a1 b.a3 (lit≤ tt) h.a1 k.a3) (more _ _ (short (pos 2) a.a3 b.a1 (lit≤ tt) h.a3 k.a1) none)))))
    (short_narrow _ (lit≤ tt) (more _ _ (short (pos 1) a.a0 b.a3 (lit≤ tt) h.a0 k.a3) (more _ _ (short (pos 1) a.a3 b.a0 (lit≤ tt) h.a3 k.a0) (more _ _ (short (pos 1) a.a1 b.a2 (lit≤ tt) h.a1 k.a2) (more _ _ (short (pos 1) a.a2 b.a1 (lit≤ tt) h.a2 k.a1) none)))))
    (times_narrow a.d b.d h.d k.d)

joined_all : (x p y q : Whole) → unsigned_abs x.n ≤ 2 ^ 28 → unsigned_abs p.n ≤ 2 ^ 28 → unsigned_abs y.n ≤ 2 ^ 28 → unsigned_abs q.n ≤ 2 ^ 28 → any_wide (joined x p (record { n = pos 1 }) y q).written ≡ false
unfolding joined
joined_all x p y q hx hp hy hq = two_all (product_of (pos 1) x p) (record { factor = record { n = pos 1 }; x = y; y = q }) (short (pos 1) x p (lit≤ tt) hx hp) (record { factor = lit≤ tt; x = hy; y = hq })

sum_all : (a b : Fraction4) → IsWithin4 (2 ^ 28) (short_of a) → IsWithin4 (2 ^ 28) (short_of b) → any_wide (sum (record { n = pos 1 }) a b).written ≡ false
unfolding sum_over
sum_all a b h k =
    let f : Whole = record { n = pos 1 } in
    let g = gcd (unsigned_abs a.d.n) (unsigned_abs b.d.n) in
    let q : Whole = record { n = quotient b.d.n g } in
    let p : Whole = record { n = quotient a.d.n g } in
    let hq : unsigned_abs (quotient b.d.n g) ≤ 2 ^ 28 = le_trans (quotient_below b.d.n g) k.d in
    let hp : unsigned_abs (quotient a.d.n g) ≤ 2 ^ 28 = le_trans (quotient_below a.d.n g) h.d in
    fraction_all (joined a.a0 q f b.a0 p) (joined a.a1 q f b.a1 p) (joined a.a2 q f b.a2 p) (joined a.a3 q f b.a3 p) (times a.d q)
    (joined_all a.a0 q b.a0 p h.a0 hq k.a0 hp) (joined_all a.a1 q b.a1 p h.a1 hq k.a1 hp) (joined_all a.a2 q b.a2 p h.a2 hq k.a2 hp) (joined_all a.a3 q b.a3 p h.a3 hq k.a3 hp)
    (times_narrow a.d q h.d hq)

-- numbers of a list that isn't long

zero_short : is_short (pos 0) ≡ true
zero_short = below_short (pos 0) (lit≤ tt)

short_at : (xs : List ℤ) (i : ℕ) → list_all is_short xs ≡ true → is_short (get_or xs i (pos 0)) ≡ true
short_at [] i h = zero_short
short_at (x ∷ xs) zero h = and_left (is_short x) (list_all is_short xs) h
short_at (x ∷ xs) (suc i) h = short_at xs i (and_right (is_short x) (list_all is_short xs) h)

unnegated : (b : Bool) → not b ≡ false → b ≡ true
unnegated true h = refl
unnegated false h = sym h

all_short : (xs : List ℤ) → is_long xs ≡ false → list_all is_short xs ≡ true
all_short xs h = unnegated (list_all is_short xs) (sym (long_is xs) ∙ h)

at_most : (xs : List ℤ) (i : ℕ) → is_long xs ≡ false → unsigned_abs (get_or xs i (pos 0)) ≤ 2 ^ 28
at_most xs i h = let l = short_below (get_or xs i (pos 0)) (short_at xs i (all_short xs h)) in omega (arith, l)

within : (xs : List ℤ) → is_long xs ≡ false → IsWithin4 (2 ^ 28) (short_of (fraction_of xs))
within xs h = record { d = at_most xs 4 h; a0 = at_most xs 0 h; a1 = at_most xs 1 h; a2 = at_most xs 2 h; a3 = at_most xs 3 h }

-- products and sums of short values

pub narrow_product : (x y : Exact24) → is_long x.0 ≡ false → is_long y.0 ≡ false → k24.is_wide_product x y ≡ false
narrow_product x y h k = product_all (fraction_of x.0) (fraction_of y.0) (within x.0 h) (within y.0 k)

pub narrow_sum : (x y : Exact24) → is_long x.0 ≡ false → is_long y.0 ≡ false → k24.is_wide_sum x y ≡ false
narrow_sum x y h k = sum_all (fraction_of x.0) (fraction_of y.0) (within x.0 h) (within y.0 k)

-- short values aren't long

five_short : (a b c d e : ℤ) → is_short a ≡ true → is_short b ≡ true → is_short c ≡ true → is_short d ≡ true → is_short e ≡ true → is_long (a ∷ b ∷ c ∷ d ∷ e ∷ []) ≡ false
five_short a b c d e ha hb hc hd he =
    long_is (a ∷ b ∷ c ∷ d ∷ e ∷ [])
    ∙ ap not (and_both (is_short a) _ ha (and_both (is_short b) _ hb (and_both (is_short c) _ hc (and_both (is_short d) _ hd (and_both (is_short e) true he refl)))))

pub value_short : (x : ShortK24) → is_long (exact_short x).0 ≡ false
value_short x =
    let r = x.fraction in
    let h : IsPacked4 r = x.packed in
    five_short r.a0.n r.a1.n r.a2.n r.a3.n r.d.n (below_short r.a0.n h.a0) (below_short r.a1.n h.a1) (below_short r.a2.n h.a2) (below_short r.a3.n h.a3) (below_short r.d.n h.d)

pub nought_short : is_long k24_laws.nought.0 ≡ false
nought_short = ap is_long (sym zero24) ∙ five_short (pos 0) (pos 0) (pos 0) (pos 0) (pos 1) zero_short zero_short zero_short zero_short (below_short (pos 1) (lit≤ tt))

row_short : (xs : List ShortK24) (j : ℕ) → is_long (vector k24_laws exact_short xs j).0 ≡ false
row_short [] j = nought_short
row_short (x ∷ xs) zero = value_short x
row_short (x ∷ xs) (suc j) = row_short xs j

pub entry_short : (m : MatrixView ShortK24) (i j : ℕ) → is_long (entry k24_laws exact_short m i j).0 ≡ false
entry_short m i j =
    by_test (λ b. is_long (if b then vector k24_laws exact_short m.entries (i * m.cols + j) else k24_laws.nought).0 ≡ false) (ltb j m.cols)
    (λ _. row_short m.entries (i * m.cols + j)) (λ _. nought_short)
