-- The inverse of four numerators over a denominator, before lowest terms.
--
-- norm: the norm by its parts; inverse: the formula
use Rattle.std.specs.Prelude.{pos, negsuc, [], ◌∷◌, cond, int_lt}
use Rattle.cyclo24.specs.declared.whole.Whole.{Whole}
use Rattle.cyclo24.specs.declared.whole.Product.{Product}
use Rattle.cyclo24.specs.declared.fraction4.Fraction4.{Fraction4}
use Rattle.cyclo24.specs.Checked.{Checked, then, give, times, product_of, sum_of}
use Rattle.cyclo24.specs.Written4.{fraction, minus}

-- a0² + 2 a1² - 3 a2² - 6 a3²
unfoldable pub norm_u : Fraction4 → Checked Whole
norm_u a = sum_of (product_of (pos 1) a.a0 a.a0 ∷ product_of (pos 2) a.a1 a.a1 ∷ product_of (negsuc 2) a.a2 a.a2 ∷ product_of (negsuc 5) a.a3 a.a3 ∷ [])

-- 2 a0 a1 - 6 a2 a3
unfoldable pub norm_v : Fraction4 → Checked Whole
norm_v a = sum_of (product_of (pos 2) a.a0 a.a1 ∷ product_of (negsuc 5) a.a2 a.a3 ∷ [])

-- u² - 2 v²
unfoldable pub norm : Whole → Whole → Checked Whole
norm u v = sum_of (product_of (pos 1) u u ∷ product_of (negsuc 1) v v ∷ [])

-- d times the sum of two products
unfoldable pub multiple : Whole → Product → Product → Checked Whole
multiple d x y = then (sum_of (x ∷ y ∷ [])) (λ s. times d s)

-- the numerators of the inverse by u and v, over the norm n
unfoldable pub inverse_over : Fraction4 → Whole → Whole → Whole → Checked Fraction4
inverse_over a u v n =
    fraction
    (multiple a.d (product_of (pos 1) a.a0 u) (product_of (negsuc 1) a.a1 v))
    (multiple a.d (product_of (pos 1) a.a1 u) (product_of (negsuc 0) a.a0 v))
    (multiple a.d (product_of (negsuc 0) a.a2 u) (product_of (pos 2) a.a3 v))
    (multiple a.d (product_of (negsuc 0) a.a3 u) (product_of (pos 1) a.a2 v))
    (give n)

-- the inverse over the norm
unfoldable pub inverse : Fraction4 → Checked Fraction4
inverse a = then (norm_u a) (λ u. then (norm_v a) (λ v. then (norm u v) (λ n. inverse_over a u v n)))

-- with all signs changed where the denominator is below 0
abbrev pub upright : Fraction4 → Fraction4
upright r = cond (int_lt r.d.n (pos 0)) (record { d = minus r.d; a0 = minus r.a0; a1 = minus r.a1; a2 = minus r.a2; a3 = minus r.a3 }) r
