-- Products of eight numerators over a denominator, before lowest terms.
--
-- high_sums a b: the sums of degree 8 to 14; low: the coefficients by them; product: the product
use Rattle.std.specs.Prelude.{pos, negsuc, List, [], ◌∷◌}
use Rattle.cyclo24.specs.declared.whole.Whole.{Whole}
use Rattle.cyclo24.specs.declared.fraction8.Fraction8.{Fraction8}
use Rattle.cyclo24.specs.declared.fraction8.High.{High}
use Rattle.cyclo24.specs.Checked.{Checked, then, give, times}
use Rattle.cyclo24.specs.Written8.{num, dot, fraction8}

-- the sums of the products a_i b_j with i + j = m for m from 8 to 14, i rising
unfoldable pub high_sums : Fraction8 → Fraction8 → Checked High
high_sums a b =
    then (dot (a.c1 ∷ a.c2 ∷ a.c3 ∷ a.c4 ∷ a.c5 ∷ a.c6 ∷ a.c7 ∷ []) (b.c7 ∷ b.c6 ∷ b.c5 ∷ b.c4 ∷ b.c3 ∷ b.c2 ∷ b.c1 ∷ [])) (λ s8.
    then (dot (a.c2 ∷ a.c3 ∷ a.c4 ∷ a.c5 ∷ a.c6 ∷ a.c7 ∷ []) (b.c7 ∷ b.c6 ∷ b.c5 ∷ b.c4 ∷ b.c3 ∷ b.c2 ∷ [])) (λ s9.
    then (dot (a.c3 ∷ a.c4 ∷ a.c5 ∷ a.c6 ∷ a.c7 ∷ []) (b.c7 ∷ b.c6 ∷ b.c5 ∷ b.c4 ∷ b.c3 ∷ [])) (λ s10.
    then (dot (a.c4 ∷ a.c5 ∷ a.c6 ∷ a.c7 ∷ []) (b.c7 ∷ b.c6 ∷ b.c5 ∷ b.c4 ∷ [])) (λ s11.
    then (dot (a.c5 ∷ a.c6 ∷ a.c7 ∷ []) (b.c7 ∷ b.c6 ∷ b.c5 ∷ [])) (λ s12.
    then (dot (a.c6 ∷ a.c7 ∷ []) (b.c7 ∷ b.c6 ∷ [])) (λ s13.
    then (dot (a.c7 ∷ []) (b.c7 ∷ [])) (λ s14.
    give (record { s8 = s8; s9 = s9; s10 = s10; s11 = s11; s12 = s12; s13 = s13; s14 = s14 }))))))))

-- the sum of products, less x and y
unfoldable pub less_two : List Whole → List Whole → Whole → Whole → Checked Whole
less_two xs ys x y = then (dot xs ys) (λ s. dot (num (pos 1) ∷ num (negsuc 0) ∷ num (negsuc 0) ∷ []) (s ∷ x ∷ y ∷ []))

-- the sum of products, and x with a sign
unfoldable pub and_one : List Whole → List Whole → Whole → Whole → Checked Whole
and_one xs ys sign x = then (dot xs ys) (λ s. dot (num (pos 1) ∷ sign ∷ []) (s ∷ x ∷ []))

-- the coefficients of the product by those of degree 8 to 14, and the product of the denominators
unfoldable pub low : Fraction8 → Fraction8 → High → Checked Fraction8
low a b h =
    fraction8
    (less_two (a.c0 ∷ []) (b.c0 ∷ []) h.s8 h.s12)
    (less_two (a.c0 ∷ a.c1 ∷ []) (b.c1 ∷ b.c0 ∷ []) h.s9 h.s13)
    (less_two (a.c0 ∷ a.c1 ∷ a.c2 ∷ []) (b.c2 ∷ b.c1 ∷ b.c0 ∷ []) h.s10 h.s14)
    (and_one (a.c0 ∷ a.c1 ∷ a.c2 ∷ a.c3 ∷ []) (b.c3 ∷ b.c2 ∷ b.c1 ∷ b.c0 ∷ []) (num (negsuc 0)) h.s11)
    (and_one (a.c0 ∷ a.c1 ∷ a.c2 ∷ a.c3 ∷ a.c4 ∷ []) (b.c4 ∷ b.c3 ∷ b.c2 ∷ b.c1 ∷ b.c0 ∷ []) (num (pos 1)) h.s8)
    (and_one (a.c0 ∷ a.c1 ∷ a.c2 ∷ a.c3 ∷ a.c4 ∷ a.c5 ∷ []) (b.c5 ∷ b.c4 ∷ b.c3 ∷ b.c2 ∷ b.c1 ∷ b.c0 ∷ []) (num (pos 1)) h.s9)
    (and_one (a.c0 ∷ a.c1 ∷ a.c2 ∷ a.c3 ∷ a.c4 ∷ a.c5 ∷ a.c6 ∷ []) (b.c6 ∷ b.c5 ∷ b.c4 ∷ b.c3 ∷ b.c2 ∷ b.c1 ∷ b.c0 ∷ []) (num (pos 1)) h.s10)
    (and_one (a.c0 ∷ a.c1 ∷ a.c2 ∷ a.c3 ∷ a.c4 ∷ a.c5 ∷ a.c6 ∷ a.c7 ∷ []) (b.c7 ∷ b.c6 ∷ b.c5 ∷ b.c4 ∷ b.c3 ∷ b.c2 ∷ b.c1 ∷ b.c0 ∷ []) (num (pos 1)) h.s11)
    (times a.d b.d)

-- the product, by z^8 = z^4 - 1 and z^12 = -1
unfoldable pub product : Fraction8 → Fraction8 → Checked Fraction8
product a b = then (high_sums a b) (λ h. low a b h)
