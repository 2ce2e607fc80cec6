-- The formulas of the 24th cyclotomic field on eight numerators over a denominator, with all numbers that are written.
--
-- numbers8 r: the numerators and then the denominator; numerators8 r, eight_of r: the numerators
-- fraction8_of x: the list x as numerators and denominator
-- IsNarrow8 r: no number is wide
-- fraction8 c0 .. c7 d: eight numerators, then a denominator
-- dot xs ys: the sum of the products of two lists, place by place
-- product, sum: the formulas, before lowest terms
-- negated: with all signs changed
use Rattle.std.specs.Prelude.{◌≡◌, ℕ, ℤ, pos, neg_ℤ, List, [], ◌∷◌, get_or, false}
use Rattle.std.specs.Int.RustNames.{unsigned_abs}
use Rattle.cyclo24.specs.declared.whole.Whole.{Whole}
use Rattle.cyclo24.specs.declared.fraction8.Fraction8.{Fraction8}
use Rattle.cyclo24.specs.Gcd.{gcd, quotient}
use Rattle.cyclo24.specs.Eight.{Eight}
use Rattle.cyclo24.specs.Checked.{Checked, is_wide, then, give, times, plus}

abbrev pub numerators8 : Fraction8 → List ℤ
numerators8 r = r.c0.n ∷ r.c1.n ∷ r.c2.n ∷ r.c3.n ∷ r.c4.n ∷ r.c5.n ∷ r.c6.n ∷ r.c7.n ∷ []

-- the numerators, then the denominator
abbrev pub numbers8 : Fraction8 → List ℤ
numbers8 r = r.c0.n ∷ r.c1.n ∷ r.c2.n ∷ r.c3.n ∷ r.c4.n ∷ r.c5.n ∷ r.c6.n ∷ r.c7.n ∷ r.d.n ∷ []

abbrev pub eight_of : Fraction8 → Eight ℤ
eight_of r = record { c0 = r.c0.n; c1 = r.c1.n; c2 = r.c2.n; c3 = r.c3.n; c4 = r.c4.n; c5 = r.c5.n; c6 = r.c6.n; c7 = r.c7.n }

abbrev pub whole_at : List ℤ → ℕ → Whole
whole_at x i = record { n = get_or x i (pos 0) }

-- a list as numerators and denominator
abbrev pub fraction8_of : List ℤ → Fraction8
fraction8_of x = record {
  d = whole_at x 8;
  c0 = whole_at x 0;
  c1 = whole_at x 1;
  c2 = whole_at x 2;
  c3 = whole_at x 3;
  c4 = whole_at x 4;
  c5 = whole_at x 5;
  c6 = whole_at x 6;
  c7 = whole_at x 7;
}

-- no number is wide
pub record IsNarrow8 (r : Fraction8) : Type 0 where
  pub narrow0 : is_wide r.c0.n ≡ false
  pub narrow1 : is_wide r.c1.n ≡ false
  pub narrow2 : is_wide r.c2.n ≡ false
  pub narrow3 : is_wide r.c3.n ≡ false
  pub narrow4 : is_wide r.c4.n ≡ false
  pub narrow5 : is_wide r.c5.n ≡ false
  pub narrow6 : is_wide r.c6.n ≡ false
  pub narrow7 : is_wide r.c7.n ≡ false
  pub narrow : is_wide r.d.n ≡ false

-- a whole number
abbrev pub num : ℤ → Whole
num z = record { n = z }

-- s and the products of two lists, place by place, from left to right
unfoldable pub dot_from : Whole → List Whole → List Whole → Checked Whole
dot_from s [] ys = give s
dot_from s (x ∷ xs) [] = give s
dot_from s (x ∷ xs) (y ∷ ys) = then (times x y) (λ p. then (plus s p) (λ r. dot_from r xs ys))

-- the sum of the products of two lists, place by place, from left to right
abbrev pub dot : List Whole → List Whole → Checked Whole
dot xs ys = dot_from (num (pos 0)) xs ys

-- eight numerators, then a denominator
unfoldable pub fraction8 : Checked Whole → Checked Whole → Checked Whole → Checked Whole → Checked Whole → Checked Whole → Checked Whole → Checked Whole → Checked Whole → Checked Fraction8
fraction8 c0 c1 c2 c3 c4 c5 c6 c7 d =
    then c0 (λ c0. then c1 (λ c1. then c2 (λ c2. then c3 (λ c3. then c4 (λ c4. then c5 (λ c5. then c6 (λ c6. then c7 (λ c7. then d (λ d.
    give (record { d = d; c0 = c0; c1 = c1; c2 = c2; c3 = c3; c4 = c4; c5 = c5; c6 = c6; c7 = c7 }))))))))))

-- x p + y q
abbrev pub joined : Whole → Whole → Whole → Whole → Checked Whole
joined x p y q = dot (x ∷ y ∷ []) (p ∷ q ∷ [])

-- a q + b p, over d q
unfoldable pub sum_over : Fraction8 → Whole → Fraction8 → Whole → Checked Fraction8
sum_over a q b p =
    fraction8 (joined a.c0 q b.c0 p) (joined a.c1 q b.c1 p) (joined a.c2 q b.c2 p) (joined a.c3 q b.c3 p) (joined a.c4 q b.c4 p) (joined a.c5 q b.c5 p) (joined a.c6 q b.c6 p) (joined a.c7 q b.c7 p)
    (times a.d q)

-- with d and e the denominators and g their greatest common divisor: a (e / g) + b (d / g), over d (e / g)
abbrev pub sum : Fraction8 → Fraction8 → Checked Fraction8
sum a b = let g = gcd (unsigned_abs a.d.n) (unsigned_abs b.d.n) in sum_over a (num (quotient b.d.n g)) b (num (quotient a.d.n g))

abbrev pub minus : Whole → Whole
minus x = num (neg_ℤ x.n)

-- -x
abbrev pub negated : Fraction8 → Fraction8
negated r = record {
  d = r.d;
  c0 = minus r.c0;
  c1 = minus r.c1;
  c2 = minus r.c2;
  c3 = minus r.c3;
  c4 = minus r.c4;
  c5 = minus r.c5;
  c6 = minus r.c6;
  c7 = minus r.c7;
}
