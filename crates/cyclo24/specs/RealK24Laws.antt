-- A sum of squares in Q(sqrt 2, sqrt 3) is zero only where each is: the part of 1 in a square is a sum of squares with positive factors.
--
-- k24_is_real: this law
use Rattle.std.proofs.Common.{◌≡◌, ℕ, zero, suc, ◌+◌, ◌*◌, ◌<◌, arith, refl, sym, ap, ◌∙◌, below_more, ℤ, pos, negsuc, ◌+ℤ◌, ◌*ℤ◌}
use Rattle.std.proofs.lemmas.Int.{ints}
use Rattle.std.specs.Int.RustNames.{unsigned_abs}
use Rattle.cyclo24.specs.Four.{Four, mul4, add4, num4}
use Rattle.cyclo24.specs.FieldOn.{FieldOn}
use Rattle.cyclo24.specs.Sums.{total, IsReal}
use Rattle.cyclo24.specs.Fraction.{Fraction}
use Rattle.cyclo24.specs.Gcd.{gcd}
use Rattle.algebra.specs.Whole.{whole}
use Rattle.algebra.specs.WholeLaws.{whole_ring}
use Rattle.cyclo24.specs.Numerators.{content_of}
use Rattle.cyclo24.specs.CommonLaws.{content_of_is}
use Rattle.cyclo24.specs.Carry.{carried-real}
use Rattle.cyclo24.specs.ListedLaws.{listed}
use Rattle.cyclo24.specs.ExactK24.{k24_laws}
use Rattle.cyclo24.specs.FourLaws.{same4, scaled}
use Rattle.cyclo24.specs.FourNorm.{whole4, four}
use Rattle.cyclo24.specs.FourNormLaws.{zero_from_abs, abs_square, four_is}
use Rattle.cyclo24.specs.FractionLaws.{fractions, is_self, is_times, is_sum, times, sum, zero_top}

abbrev Fraction24 : Type 0
Fraction24 = Fraction (content_of four)

abbrev fractions24 : FieldOn Fraction24
fractions24 = fractions whole4 (content_of four) (content_of_is whole4 four four_is)

-- L z = t for natural L > 0 and t: z is natural
quotient : (l t : ℕ) (z : ℤ) → 0 < l → pos l *ℤ z ≡ pos t → (n : ℕ) × (z ≡ pos n) × (l * n ≡ t)
quotient l t (pos n) p e = (n, refl, omega (arith, ints, e))
quotient (suc l) t (negsuc n) p e = absurd (omega (arith, ints, e))
quotient zero t (negsuc n) p e = absurd (omega arith)

no_product : (a b : ℕ) → 0 < a → a * b ≡ 0 → b ≡ 0
no_product a zero p e = refl
no_product (suc a) (suc b) p e = absurd (omega arith)
no_product zero (suc b) p e = absurd (omega arith)

no_square : (a : ℕ) → a * a ≡ 0 → a ≡ 0
no_square zero e = refl
no_square (suc a) e = absurd (omega arith)

-- the part of 1 in the square
abbrev squares : Four ℤ → ℕ
squares x =
    unsigned_abs x.c0 * unsigned_abs x.c0 + 2 * (unsigned_abs x.c1 * unsigned_abs x.c1) + 3 * (unsigned_abs x.c2 * unsigned_abs x.c2)
    + 6 * (unsigned_abs x.c3 * unsigned_abs x.c3)

square_is : (x : Four ℤ) → (mul4 whole x x).c0 ≡ pos (squares x)
square_is x = omega (arith, ints, abs_square x.c0, abs_square x.c1, abs_square x.c2, abs_square x.c3)

squares_zero : (x : Four ℤ) → squares x ≡ 0 → x ≡ num4 whole (pos 0)
squares_zero x e =
    same4 x (num4 whole (pos 0)) (zero_from_abs x.c0 (no_square (unsigned_abs x.c0) (omega arith))) (zero_from_abs x.c1 (no_square (unsigned_abs x.c1) (omega arith)))
    (zero_from_abs x.c2 (no_square (unsigned_abs x.c2) (omega arith))) (zero_from_abs x.c3 (no_square (unsigned_abs x.c3) (omega arith)))

abbrev the_times : Fraction24 → Fraction24 → Fraction24
the_times = times whole4 (content_of four) (content_of_is whole4 four four_is)

abbrev the_sum : Fraction24 → Fraction24 → Fraction24
the_sum = sum whole4 (content_of four) (content_of_is whole4 four four_is)

front_square : (f : Fraction24) → (n : ℕ) × ((the_times f f).top.c0 ≡ pos n) × (n ≡ 0 → f.top ≡ num4 whole (pos 0))
front_square f =
    let m = the_times f f in
    let s = is_times whole4 (content_of four) (content_of_is whole4 four four_is) f f f.top (whole4.num f.low) f.top (whole4.num f.low) (is_self whole4 (content_of four) (content_of_is whole4 four four_is) f) (is_self whole4 (content_of four) (content_of_is whole4 four four_is) f) in
    let e : pos m.low *ℤ (mul4 whole f.top f.top).c0 ≡ pos s.size *ℤ m.top.c0 =
    ap (λ (z : Four ℤ). z.c0) (sym (scaled whole whole_ring (pos m.low) (mul4 whole f.top f.top)) ∙ s.cross ∙ ap (λ w. mul4 whole w m.top) s.number ∙ scaled whole whole_ring (pos s.size) m.top) in
    let q = quotient s.size (m.low * squares f.top) m.top.c0 s.positive
    (sym e ∙ ap (λ z. pos m.low *ℤ z) (square_is f.top)) in
    (q.0, q.1, λ z. squares_zero f.top (no_product m.low (squares f.top) m.positive (sym q.2 ∙ ap (λ n. s.size * n) z ∙ omega arith)))

front_sum : (f k : Fraction24) (p q : ℕ) → f.top.c0 ≡ pos p → k.top.c0 ≡ pos q → (n : ℕ) × ((the_sum f k).top.c0 ≡ pos n) × (n ≡ 0 → (p ≡ 0) × (q ≡ 0))
front_sum f k p q a b =
    let m = the_sum f k in
    let s = is_sum whole4 (content_of four) (content_of_is whole4 four four_is) f k f.top (whole4.num f.low) k.top (whole4.num k.low) (is_self whole4 (content_of four) (content_of_is whole4 four four_is) f) (is_self whole4 (content_of four) (content_of_is whole4 four four_is) k) in
    let t = add4 whole (mul4 whole (num4 whole (pos k.low)) f.top) (mul4 whole (num4 whole (pos f.low)) k.top) in
    let e : pos m.low *ℤ t.c0 ≡ pos s.size *ℤ m.top.c0 =
    ap (λ (z : Four ℤ). z.c0) (sym (scaled whole whole_ring (pos m.low) t) ∙ s.cross ∙ ap (λ w. mul4 whole w m.top) s.number ∙ scaled whole whole_ring (pos s.size) m.top) in
    let d : t.c0 ≡ pos (k.low * p + f.low * q) =
    (λ i. ap (λ (z : Four ℤ). z.c0) (scaled whole whole_ring (pos k.low) f.top) i +ℤ ap (λ (z : Four ℤ). z.c0) (scaled whole whole_ring (pos f.low) k.top) i)
    ∙ (λ i. (pos k.low *ℤ a i) +ℤ (pos f.low *ℤ b i)) in
    let r = quotient s.size (m.low * (k.low * p + f.low * q)) m.top.c0 s.positive (sym e ∙ ap (λ z. pos m.low *ℤ z) d) in (
      r.0,
      r.1,
      λ z.
          let n : k.low * p + f.low * q ≡ 0 = no_product m.low (k.low * p + f.low * q) m.positive (sym r.2 ∙ ap (λ n. s.size * n) z ∙ omega arith) in
          (no_product k.low p k.positive (omega arith), no_product f.low q f.positive (omega arith)),
    )

-- the sum of squares has a natural part of 1, and that is 0 only where each is 0
front_total : (n : ℕ) (g : ℕ → Fraction24) → (p : ℕ) × ((total fractions24 n (λ k. fractions24.times (g k) (g k))).top.c0 ≡ pos p) × (p ≡ 0 → (k : ℕ) → k < n → (g k).top ≡ num4 whole (pos 0))
unfolding gcd
front_total zero g = (0, refl, λ z k l. absurd (omega arith))
front_total (suc n) g =
    let r = front_total n g in
    let s = front_square (g n) in
    let t = front_sum (total fractions24 n (λ k. fractions24.times (g k) (g k))) (fractions24.times (g n) (g n)) r.0 s.0 r.1 s.1 in
    (t.0, t.1, λ z k l. by_place k n g (r.2 (t.2 z).0) (s.2 (t.2 z).1) l)
  where
    by_place : (k n : ℕ) (g : ℕ → Fraction24) → ((k : ℕ) → k < n → (g k).top ≡ num4 whole (pos 0)) → (g n).top ≡ num4 whole (pos 0) → k < suc n → (g k).top ≡ num4 whole (pos 0)
    by_place k n g h e l = below_more _ _ h e k (omega arith)

fractions_are_real : IsReal fractions24
unfolding gcd
fractions_are_real n g e k l =
    let t = front_total n g in
    let z : pos t.0 ≡ pos 0 = sym t.1 ∙ ap (λ (f : Fraction24). f.top.c0) e in
    zero_top whole4 (content_of four) (content_of_is whole4 four four_is) (g k) (t.2 (omega (arith, ints, z)) k l)

-- a sum of squares of exact values is zero only where each is
pub k24_is_real : IsReal k24_laws
k24_is_real = carried-real fractions24 (listed whole4 four four_is) fractions_are_real
