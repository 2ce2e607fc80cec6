-- The formulas of the field Q(sqrt 2, sqrt 3) on four numerators over a denominator, with all numbers that are written.
--
-- numbers4 r: the numerators and then the denominator; numerators4 r, four_of r: the numerators
-- fraction_of x: the list x as numerators and denominator
-- IsNarrow4 r: no number is wide
-- fraction c0 c1 c2 c3 d: four numerators, then a denominator
-- product, sum, inverse: the formulas, before lowest terms and with the sign of the norm
-- negated, upright: with all signs changed, always or where the denominator is below 0
use Rattle.std.specs.Prelude.{◌≡◌, ℕ, ℤ, pos, neg_ℤ, List, [], ◌∷◌, get_or, false}
use Rattle.std.specs.Int.RustNames.{unsigned_abs}
use Rattle.cyclo24.specs.declared.whole.Whole.{Whole}
use Rattle.cyclo24.specs.declared.fraction4.Fraction4.{Fraction4}
use Rattle.cyclo24.specs.Gcd.{gcd, quotient}
use Rattle.cyclo24.specs.Four.{Four}
use Rattle.cyclo24.specs.Checked.{Checked, is_wide, then, give, times, product_of, sum_of}

abbrev pub numerators4 : Fraction4 → List ℤ
numerators4 r = r.a0.n ∷ r.a1.n ∷ r.a2.n ∷ r.a3.n ∷ []

-- the numerators, then the denominator
abbrev pub numbers4 : Fraction4 → List ℤ
numbers4 r = r.a0.n ∷ r.a1.n ∷ r.a2.n ∷ r.a3.n ∷ r.d.n ∷ []

abbrev pub four_of : Fraction4 → Four ℤ
four_of r = record { c0 = r.a0.n; c1 = r.a1.n; c2 = r.a2.n; c3 = r.a3.n }

abbrev pub whole_at : List ℤ → ℕ → Whole
whole_at x i = record { n = get_or x i (pos 0) }

-- a list as numerators and denominator
abbrev pub fraction_of : List ℤ → Fraction4
fraction_of x = record { d = whole_at x 4; a0 = whole_at x 0; a1 = whole_at x 1; a2 = whole_at x 2; a3 = whole_at x 3 }

-- no number is wide
pub record IsNarrow4 (r : Fraction4) : Type 0 where
  pub narrow0 : is_wide r.a0.n ≡ false
  pub narrow1 : is_wide r.a1.n ≡ false
  pub narrow2 : is_wide r.a2.n ≡ false
  pub narrow3 : is_wide r.a3.n ≡ false
  pub narrow : is_wide r.d.n ≡ false

-- the coefficient of 1 in a product
unfoldable pub product0 : Fraction4 → Fraction4 → Checked Whole
product0 a b = sum_of (product_of (pos 1) a.a0 b.a0 ∷ product_of (pos 2) a.a1 b.a1 ∷ product_of (pos 3) a.a2 b.a2 ∷ product_of (pos 6) a.a3 b.a3 ∷ [])

-- the coefficient of r2 in a product
unfoldable pub product1 : Fraction4 → Fraction4 → Checked Whole
product1 a b = sum_of (product_of (pos 1) a.a0 b.a1 ∷ product_of (pos 1) a.a1 b.a0 ∷ product_of (pos 3) a.a2 b.a3 ∷ product_of (pos 3) a.a3 b.a2 ∷ [])

-- the coefficient of r3 in a product
unfoldable pub product2 : Fraction4 → Fraction4 → Checked Whole
product2 a b = sum_of (product_of (pos 1) a.a0 b.a2 ∷ product_of (pos 1) a.a2 b.a0 ∷ product_of (pos 2) a.a1 b.a3 ∷ product_of (pos 2) a.a3 b.a1 ∷ [])

-- the coefficient of r6 in a product
unfoldable pub product3 : Fraction4 → Fraction4 → Checked Whole
product3 a b = sum_of (product_of (pos 1) a.a0 b.a3 ∷ product_of (pos 1) a.a3 b.a0 ∷ product_of (pos 1) a.a1 b.a2 ∷ product_of (pos 1) a.a2 b.a1 ∷ [])

-- four numerators, then a denominator
unfoldable pub fraction : Checked Whole → Checked Whole → Checked Whole → Checked Whole → Checked Whole → Checked Fraction4
fraction c0 c1 c2 c3 d =
    then c0 (λ c0. then c1 (λ c1. then c2 (λ c2. then c3 (λ c3. then d (λ d. give (record { d = d; a0 = c0; a1 = c1; a2 = c2; a3 = c3 }))))))

-- the product, over d e
unfoldable pub product : Fraction4 → Fraction4 → Checked Fraction4
product a b = fraction (product0 a b) (product1 a b) (product2 a b) (product3 a b) (times a.d b.d)

-- x p + f y q
unfoldable pub joined : Whole → Whole → Whole → Whole → Whole → Checked Whole
joined x p f y q = sum_of (product_of (pos 1) x p ∷ record { factor = f; x = y; y = q } ∷ [])

-- a q + f b p, over d q
unfoldable pub sum_over : Whole → Fraction4 → Whole → Fraction4 → Whole → Checked Fraction4
sum_over f a q b p = fraction (joined a.a0 q f b.a0 p) (joined a.a1 q f b.a1 p) (joined a.a2 q f b.a2 p) (joined a.a3 q f b.a3 p) (times a.d q)

-- a + f b for a sign f: with d and e the denominators and g their greatest common divisor, over d (e / g)
abbrev pub sum : Whole → Fraction4 → Fraction4 → Checked Fraction4
sum f a b =
    let g = gcd (unsigned_abs a.d.n) (unsigned_abs b.d.n) in
    sum_over f a (record { n = quotient b.d.n g }) b (record { n = quotient a.d.n g })

abbrev pub minus : Whole → Whole
minus x = record { n = neg_ℤ x.n }

-- -x
abbrev pub negated : Fraction4 → Fraction4
negated r = record { d = r.d; a0 = minus r.a0; a1 = minus r.a1; a2 = minus r.a2; a3 = minus r.a3 }
