-- The values of the formulas on four numerators over a denominator, and that they are narrow where they are answered.
--
-- product_value, sum_value, inverse_value: the numerators and the denominator that are answered
-- u_value, v_value: the parts of the norm
-- product_narrow, sum_narrow, inverse_narrow: no number of an answer is wide
use Rattle.std.proofs.Common.{◌≡◌, refl, sym, ap, ◌∙◌, subst, arith, ℤ, pos, negsuc, neg_ℤ, ◌+ℤ◌, ◌*ℤ◌, List, [], ◌∷◌, false}
use Rattle.std.proofs.lemmas.Int.{ints}
use Rattle.cyclo24.specs.declared.whole.Whole.{Whole}
use Rattle.cyclo24.specs.declared.whole.Product.{Product}
use Rattle.cyclo24.specs.declared.fraction4.Fraction4.{Fraction4}
use Rattle.algebra.specs.Whole.{whole}
use Rattle.cyclo24.specs.Four.{Four, mul4}
use Rattle.cyclo24.specs.Four as Fours
use Rattle.cyclo24.specs.FourNorm.{list4}
use Rattle.cyclo24.specs.Checked.{Checked, any_wide, is_wide, then, give, times, term, product_of, sum_of, sum_from}
use Rattle.cyclo24.specs.CheckedLaws.{then_narrow, written_narrow, sum_of_narrow}
use Rattle.cyclo24.specs.Written4.{numerators4, four_of, IsNarrow4, fraction, product0, product1, product2, product3, product, joined, sum_over}
use Rattle.cyclo24.specs.Written4Inverse.{norm_u, norm_v, norm, multiple, inverse_over, inverse}

-- an answered number is narrow
abbrev IsKept : Checked Whole → Type 0
IsKept m = any_wide m.written ≡ false → is_wide m.value.n ≡ false

fraction_parts : (c0 c1 c2 c3 d : Checked Whole) → any_wide (fraction c0 c1 c2 c3 d).written ≡ false
    → (any_wide c0.written ≡ false) × (any_wide c1.written ≡ false) × (any_wide c2.written ≡ false) × (any_wide c3.written ≡ false) × (any_wide d.written ≡ false)
unfolding fraction
fraction_parts c0 c1 c2 c3 d e =
    let h0 = then_narrow c0 _ e in let h1 = then_narrow c1 _ h0.1 in let h2 = then_narrow c2 _ h1.1 in let h3 = then_narrow c3 _ h2.1 in
    (h0.0, h1.0, h2.0, h3.0, (then_narrow d _ h3.1).0)

fraction_value : (c0 c1 c2 c3 d : Checked Whole) → (fraction c0 c1 c2 c3 d).value ≡ record { d = d.value; a0 = c0.value; a1 = c1.value; a2 = c2.value; a3 = c3.value }
unfolding fraction then
fraction_value c0 c1 c2 c3 d = refl

fraction_narrow : (c0 c1 c2 c3 d : Checked Whole) → IsKept c0 → IsKept c1 → IsKept c2 → IsKept c3 → is_wide d.value.n ≡ false → any_wide (fraction c0 c1 c2 c3 d).written ≡ false → IsNarrow4 (fraction c0 c1 c2 c3 d).value
fraction_narrow c0 c1 c2 c3 d k0 k1 k2 k3 kd e =
    let h = fraction_parts c0 c1 c2 c3 d e in
    subst IsNarrow4 (sym (fraction_value c0 c1 c2 c3 d)) (record { narrow0 = k0 h.0; narrow1 = k1 h.1; narrow2 = k2 h.2; narrow3 = k3 h.3; narrow = kd })

fraction_last : (c0 c1 c2 c3 d : Checked Whole) → any_wide (fraction c0 c1 c2 c3 d).written ≡ false → any_wide d.written ≡ false
fraction_last c0 c1 c2 c3 d e = (fraction_parts c0 c1 c2 c3 d e).4

kept0 : (a b : Fraction4) → IsKept (product0 a b)
unfolding product0
kept0 a b = sum_of_narrow _

kept1 : (a b : Fraction4) → IsKept (product1 a b)
unfolding product1
kept1 a b = sum_of_narrow _

kept2 : (a b : Fraction4) → IsKept (product2 a b)
unfolding product2
kept2 a b = sum_of_narrow _

kept3 : (a b : Fraction4) → IsKept (product3 a b)
unfolding product3
kept3 a b = sum_of_narrow _

pub product_narrow : (a b : Fraction4) → any_wide (product a b).written ≡ false → IsNarrow4 (product a b).value
unfolding product
product_narrow a b e =
    let d = fraction_last (product0 a b) (product1 a b) (product2 a b) (product3 a b) (times a.d b.d) e in
    fraction_narrow (product0 a b) (product1 a b) (product2 a b) (product3 a b) (times a.d b.d) (kept0 a b) (kept1 a b) (kept2 a b) (kept3 a b) (written_narrow (a.d.n *ℤ b.d.n) d) e

value0 : (a b : Fraction4) → (product0 a b).value.n ≡ (mul4 whole (four_of a) (four_of b)).c0
unfolding product0 sum_from then term
value0 a b = omega (arith, ints)

value1 : (a b : Fraction4) → (product1 a b).value.n ≡ (mul4 whole (four_of a) (four_of b)).c1
unfolding product1 sum_from then term
value1 a b = omega (arith, ints)

value2 : (a b : Fraction4) → (product2 a b).value.n ≡ (mul4 whole (four_of a) (four_of b)).c2
unfolding product2 sum_from then term
value2 a b = omega (arith, ints)

value3 : (a b : Fraction4) → (product3 a b).value.n ≡ (mul4 whole (four_of a) (four_of b)).c3
unfolding product3 sum_from then term
value3 a b = omega (arith, ints)

pub product_value : (a b : Fraction4) → (numerators4 (product a b).value ≡ list4 (mul4 whole (four_of a) (four_of b))) × ((product a b).value.d.n ≡ a.d.n *ℤ b.d.n)
unfolding product
product_value a b =
    let v = fraction_value (product0 a b) (product1 a b) (product2 a b) (product3 a b) (times a.d b.d) in (
      ap numerators4 v ∙ (λ i. value0 a b i ∷ value1 a b i ∷ value2 a b i ∷ value3 a b i ∷ []),
      ap (λ (r : Fraction4). r.d.n) v,
    )

joined_kept : (x p f y q : Whole) → IsKept (joined x p f y q)
unfolding joined
joined_kept x p f y q = sum_of_narrow _

pub sum_narrow : (f : Whole) (a : Fraction4) (q : Whole) (b : Fraction4) (p : Whole) → any_wide (sum_over f a q b p).written ≡ false → IsNarrow4 (sum_over f a q b p).value
unfolding sum_over
sum_narrow f a q b p e =
    let c0 = joined a.a0 q f b.a0 p in let c1 = joined a.a1 q f b.a1 p in let c2 = joined a.a2 q f b.a2 p in let c3 = joined a.a3 q f b.a3 p in
    let d = fraction_last c0 c1 c2 c3 (times a.d q) e in
    fraction_narrow c0 c1 c2 c3 (times a.d q) (joined_kept a.a0 q f b.a0 p) (joined_kept a.a1 q f b.a1 p) (joined_kept a.a2 q f b.a2 p) (joined_kept a.a3 q f b.a3 p) (written_narrow (a.d.n *ℤ q.n) d) e

joined_value : (x p f y q : Whole) → (joined x p f y q).value.n ≡ p.n *ℤ x.n +ℤ f.n *ℤ (q.n *ℤ y.n)
unfolding joined sum_from then term
joined_value x p f y q = let e : y.n *ℤ q.n ≡ q.n *ℤ y.n = omega (arith, ints) in ap (λ z. (pos 0 +ℤ pos 1 *ℤ (x.n *ℤ p.n)) +ℤ f.n *ℤ z) e ∙ omega (arith, ints)

pub sum_value : (f : Whole) (a : Fraction4) (q : Whole) (b : Fraction4) (p : Whole) → let c : ℤ → ℤ → ℤ = λ x y. q.n *ℤ x +ℤ f.n *ℤ (p.n *ℤ y) in
    (numerators4 (sum_over f a q b p).value ≡ c a.a0.n b.a0.n ∷ c a.a1.n b.a1.n ∷ c a.a2.n b.a2.n ∷ c a.a3.n b.a3.n ∷ []) × ((sum_over f a q b p).value.d.n ≡ a.d.n *ℤ q.n)
unfolding sum_over
sum_value f a q b p =
    let v = fraction_value (joined a.a0 q f b.a0 p) (joined a.a1 q f b.a1 p) (joined a.a2 q f b.a2 p) (joined a.a3 q f b.a3 p) (times a.d q) in (
      ap numerators4 v ∙ (λ i. joined_value a.a0 q f b.a0 p i ∷ joined_value a.a1 q f b.a1 p i ∷ joined_value a.a2 q f b.a2 p i ∷ joined_value a.a3 q f b.a3 p i ∷ []),
      ap (λ (r : Fraction4). r.d.n) v,
    )

multiple_kept : (d : Whole) (x y : Product) → IsKept (multiple d x y)
unfolding multiple then
multiple_kept d x y e = let h = then_narrow (sum_of (x ∷ y ∷ [])) (λ s. times d s) e in written_narrow (d.n *ℤ (sum_of (x ∷ y ∷ [])).value.n) h.1

norm_kept : (u v : Whole) → IsKept (norm u v)
unfolding norm
norm_kept u v = sum_of_narrow _

over_narrow : (a : Fraction4) (u v n : Whole) → is_wide n.n ≡ false → any_wide (inverse_over a u v n).written ≡ false → IsNarrow4 (inverse_over a u v n).value
unfolding inverse_over
over_narrow a u v n k e =
    fraction_narrow
    (multiple a.d (product_of (pos 1) a.a0 u) (product_of (negsuc 1) a.a1 v)) (multiple a.d (product_of (pos 1) a.a1 u) (product_of (negsuc 0) a.a0 v))
    (multiple a.d (product_of (negsuc 0) a.a2 u) (product_of (pos 2) a.a3 v)) (multiple a.d (product_of (negsuc 0) a.a3 u) (product_of (pos 1) a.a2 v))
    (give n)
    (multiple_kept a.d (product_of (pos 1) a.a0 u) (product_of (negsuc 1) a.a1 v)) (multiple_kept a.d (product_of (pos 1) a.a1 u) (product_of (negsuc 0) a.a0 v))
    (multiple_kept a.d (product_of (negsuc 0) a.a2 u) (product_of (pos 2) a.a3 v)) (multiple_kept a.d (product_of (negsuc 0) a.a3 u) (product_of (pos 1) a.a2 v))
    k e

pub inverse_narrow : (a : Fraction4) → any_wide (inverse a).written ≡ false → IsNarrow4 (inverse a).value
unfolding inverse then
inverse_narrow a e =
    let u = (norm_u a).value in let v = (norm_v a).value in
    let h = then_narrow (norm_u a) (λ u. then (norm_v a) (λ v. then (norm u v) (λ n. inverse_over a u v n))) e in
    let k = then_narrow (norm_v a) (λ v. then (norm u v) (λ n. inverse_over a u v n)) h.1 in
    let l = then_narrow (norm u v) (λ n. inverse_over a u v n) k.1 in
    over_narrow a u v (norm u v).value (norm_kept u v l.0) l.1

multiple_value : (d : Whole) (f g : ℤ) (x u y v : Whole) → (multiple d (product_of f x u) (product_of g y v)).value.n ≡ d.n *ℤ (pos 0 +ℤ f *ℤ (x.n *ℤ u.n) +ℤ g *ℤ (y.n *ℤ v.n))
unfolding multiple sum_from then term
multiple_value d f g x u y v = refl

pub u_value : (a : Fraction4) → (norm_u a).value.n ≡ Fours.norm_u whole (four_of a)
unfolding norm_u sum_from then term
u_value a = omega (arith, ints)

pub v_value : (a : Fraction4) → (norm_v a).value.n ≡ Fours.norm_v whole (four_of a)
unfolding norm_v sum_from then term
v_value a = omega (arith, ints)

n_value : (u v : Whole) → (norm u v).value.n ≡ u.n *ℤ u.n +ℤ neg_ℤ (pos 2 *ℤ (v.n *ℤ v.n))
unfolding norm sum_from then term
n_value u v = omega (arith, ints)

first : (x u y v : ℤ) → pos 0 +ℤ pos 1 *ℤ (x *ℤ u) +ℤ negsuc 1 *ℤ (y *ℤ v) ≡ x *ℤ u +ℤ neg_ℤ (pos 2 *ℤ (y *ℤ v))
first x u y v = omega (arith, ints)

second : (x u y v : ℤ) → pos 0 +ℤ pos 1 *ℤ (x *ℤ u) +ℤ negsuc 0 *ℤ (y *ℤ v) ≡ x *ℤ u +ℤ neg_ℤ (y *ℤ v)
second x u y v = omega (arith, ints)

third : (x u y v : ℤ) → pos 0 +ℤ negsuc 0 *ℤ (x *ℤ u) +ℤ pos 2 *ℤ (y *ℤ v) ≡ neg_ℤ (x *ℤ u) +ℤ pos 2 *ℤ (y *ℤ v)
third x u y v = omega (arith, ints)

fourth : (x u y v : ℤ) → pos 0 +ℤ negsuc 0 *ℤ (x *ℤ u) +ℤ pos 1 *ℤ (y *ℤ v) ≡ neg_ℤ (x *ℤ u) +ℤ y *ℤ v
fourth x u y v = omega (arith, ints)

-- d times the numerators
abbrev pub times4 : ℤ → Four ℤ → List ℤ
times4 d x = list4 (record { c0 = d *ℤ x.c0; c1 = d *ℤ x.c1; c2 = d *ℤ x.c2; c3 = d *ℤ x.c3 })

over_value : (a : Fraction4) (u v n : Whole) → u.n ≡ Fours.norm_u whole (four_of a) → v.n ≡ Fours.norm_v whole (four_of a)
    → (numerators4 (inverse_over a u v n).value ≡ times4 a.d.n (Fours.adj4 whole (four_of a))) × ((inverse_over a u v n).value.d ≡ n)
unfolding inverse_over
over_value a u v n e f =
    let m0 = multiple a.d (product_of (pos 1) a.a0 u) (product_of (negsuc 1) a.a1 v) in let m1 = multiple a.d (product_of (pos 1) a.a1 u) (product_of (negsuc 0) a.a0 v) in
    let m2 = multiple a.d (product_of (negsuc 0) a.a2 u) (product_of (pos 2) a.a3 v) in let m3 = multiple a.d (product_of (negsuc 0) a.a3 u) (product_of (pos 1) a.a2 v) in
    let w = fraction_value m0 m1 m2 m3 (give n) in
    let d : ℤ = a.d.n in let x0 = a.a0.n in let x1 = a.a1.n in let x2 = a.a2.n in let x3 = a.a3.n in
    let c0 : m0.value.n ≡ d *ℤ (x0 *ℤ u.n +ℤ neg_ℤ (pos 2 *ℤ (x1 *ℤ v.n))) = multiple_value a.d (pos 1) (negsuc 1) a.a0 u a.a1 v ∙ ap (λ z. d *ℤ z) (first x0 u.n x1 v.n) in
    let c1 : m1.value.n ≡ d *ℤ (x1 *ℤ u.n +ℤ neg_ℤ (x0 *ℤ v.n)) = multiple_value a.d (pos 1) (negsuc 0) a.a1 u a.a0 v ∙ ap (λ z. d *ℤ z) (second x1 u.n x0 v.n) in
    let c2 : m2.value.n ≡ d *ℤ (neg_ℤ (x2 *ℤ u.n) +ℤ pos 2 *ℤ (x3 *ℤ v.n)) = multiple_value a.d (negsuc 0) (pos 2) a.a2 u a.a3 v ∙ ap (λ z. d *ℤ z) (third x2 u.n x3 v.n) in
    let c3 : m3.value.n ≡ d *ℤ (neg_ℤ (x3 *ℤ u.n) +ℤ x2 *ℤ v.n) = multiple_value a.d (negsuc 0) (pos 1) a.a3 u a.a2 v ∙ ap (λ z. d *ℤ z) (fourth x3 u.n x2 v.n) in (
      ap numerators4 w ∙ (λ i. c0 i ∷ c1 i ∷ c2 i ∷ c3 i ∷ [])
          ∙ (λ i. (d *ℤ (x0 *ℤ e i +ℤ neg_ℤ (pos 2 *ℤ (x1 *ℤ f i)))) ∷ (d *ℤ (x1 *ℤ e i +ℤ neg_ℤ (x0 *ℤ f i))) ∷ (d *ℤ (neg_ℤ (x2 *ℤ e i) +ℤ pos 2 *ℤ (x3 *ℤ f i))) ∷ (d *ℤ (neg_ℤ (x3 *ℤ e i) +ℤ x2 *ℤ f i)) ∷ []),
      ap (λ (r : Fraction4). r.d) w,
    )

pub inverse_value : (a : Fraction4) → (numerators4 (inverse a).value ≡ times4 a.d.n (Fours.adj4 whole (four_of a))) × ((inverse a).value.d.n ≡ Fours.norm4 whole (four_of a))
unfolding inverse then
inverse_value a =
    let u = (norm_u a).value in let v = (norm_v a).value in
    let r = over_value a u v (norm u v).value (u_value a) (v_value a) in
    (r.0, ap (λ (w : Whole). w.n) r.1 ∙ n_value u v ∙ (λ i. u_value a i *ℤ u_value a i +ℤ neg_ℤ (pos 2 *ℤ (v_value a i *ℤ v_value a i))))
