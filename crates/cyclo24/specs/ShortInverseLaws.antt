-- In 128 bits the inverse of a short number writes nothing wide.
--
-- short_inverse: none of the numbers of the formula is wide
use Rattle.std.proofs.Common.{◌≡◌, ℕ, ◌+◌, ◌*◌, ◌^◌, ◌<◌, ◌≤◌, Bool, false, arith, ℤ, pos, negsuc, ◌+ℤ◌, ◌*ℤ◌, refl, lit≤, [], ◌∷◌, mul-le-mul}
use Rattle.std.specs.Prelude.{◌||◌}
use Rattle.std.proofs.lemmas.Int.{ints, unsigned_abs-mul}
use Rattle.std.specs.Int.RustNames.{unsigned_abs}
use Rattle.cyclo24.specs.declared.whole.Whole.{Whole}
use Rattle.cyclo24.specs.declared.whole.Product.{Product}
use Rattle.cyclo24.specs.declared.fraction4.Fraction4.{Fraction4}
use Rattle.cyclo24.specs.Checked.{is_wide, any_wide, then, give, times, plus, term, sum_from, sum_of, product_of}
use Rattle.cyclo24.specs.SmallLaws.{sum_most}
use Rattle.cyclo24.specs.Short.{none, more}
use Rattle.cyclo24.specs.ShortLaws.{then_all, written_all, short_most}
use Rattle.cyclo24.specs.Written4Inverse.{norm_u, norm_v, norm, multiple, inverse_over, inverse}
use Rattle.cyclo24.specs.Short4.{short_of, IsWithin4}
use Rattle.cyclo24.specs.Lowest4Laws.{fraction_all, short, u_all, v_all}

-- a product of two numbers by their sizes
product_size : (x y : ℤ) (a b : ℕ) → unsigned_abs x ≤ a → unsigned_abs y ≤ b → unsigned_abs (x *ℤ y) ≤ a * b
product_size x y a b h k = let m : unsigned_abs x * unsigned_abs y ≤ a * b = mul-le-mul h k in omega (arith, m, unsigned_abs-mul x y)

-- products with a factor of at most 2

term_narrow : (p : Product) (k : ℕ) → unsigned_abs p.factor.n ≤ 2 → unsigned_abs (p.x.n *ℤ p.y.n) ≤ k → 2 * k < 2 ^ 126 → any_wide (term p).written ≡ false
unfolding term then
term_narrow p k f h l =
    let z = p.x.n *ℤ p.y.n in
    then_all (times p.x p.y) (λ xy. times p.factor xy) (written_all z k h (omega (arith, l))) (written_all (p.factor.n *ℤ z) (2 * k) (product_size p.factor.n z 2 k f h) l)

term_below : (p : Product) (k : ℕ) → unsigned_abs p.factor.n ≤ 2 → unsigned_abs (p.x.n *ℤ p.y.n) ≤ k → unsigned_abs (term p).value.n ≤ 2 * k
unfolding term then
term_below p k f h = product_size p.factor.n (p.x.n *ℤ p.y.n) 2 k f h

-- the sum of two such products
two_below : (p q : Product) (k : ℕ) → unsigned_abs (term p).value.n ≤ 2 * k → unsigned_abs (term q).value.n ≤ 2 * k → unsigned_abs (sum_of (p ∷ q ∷ [])).value.n ≤ 4 * k
unfolding sum_from then
two_below p q k h l = omega (arith, ints, sum_most (pos 0 +ℤ (term p).value.n) (term q).value.n, sum_most (pos 0) (term p).value.n, h, l)

two_narrow : (p q : Product) (k : ℕ) → unsigned_abs (term p).value.n ≤ 2 * k → unsigned_abs (term q).value.n ≤ 2 * k → any_wide (term p).written ≡ false → any_wide (term q).written ≡ false → 4 * k < 2 ^ 126
    → any_wide (sum_of (p ∷ q ∷ [])).written ≡ false
unfolding sum_from
two_narrow p q k h l hn ln m =
    let x = (term p).value.n in let y = (term q).value.n in
    let a : unsigned_abs (pos 0 +ℤ x) ≤ 4 * k = omega (arith, ints, sum_most (pos 0) x, h) in
    let b : unsigned_abs ((pos 0 +ℤ x) +ℤ y) ≤ 4 * k = omega (arith, ints, sum_most (pos 0 +ℤ x) y, sum_most (pos 0) x, h, l) in
    let s : Whole = record { n = pos 0 } in
    then_all (term p) (λ v. then (plus s v) (λ r. sum_from r (q ∷ []))) hn
    (then_all (plus s (term p).value) (λ r. sum_from r (q ∷ [])) (written_all (pos 0 +ℤ x) (4 * k) a m)
    (then_all (term q) (λ v. then (plus (plus s (term p).value).value v) (λ r. sum_from r [])) ln
    (then_all (plus (plus s (term p).value).value (term q).value) (λ r. sum_from r []) (written_all ((pos 0 +ℤ x) +ℤ y) (4 * k) b m) refl)))

pair_narrow : (f g : ℤ) (x y z w : Whole) (k : ℕ) → unsigned_abs f ≤ 2 → unsigned_abs g ≤ 2 → unsigned_abs (x.n *ℤ y.n) ≤ k → unsigned_abs (z.n *ℤ w.n) ≤ k → 4 * k < 2 ^ 126
    → any_wide (sum_of (product_of f x y ∷ product_of g z w ∷ [])).written ≡ false
pair_narrow f g x y z w k a b h l m =
    let p = product_of f x y in let q = product_of g z w in
    two_narrow p q k (term_below p k a h) (term_below q k b l) (term_narrow p k a h (omega (arith, m))) (term_narrow q k b l (omega (arith, m))) m

-- the parts of the norm

u_below : (a : Fraction4) → IsWithin4 (2 ^ 28) (short_of a) → unsigned_abs (norm_u a).value.n ≤ 2 ^ 61
unfolding norm_u
u_below a h =
    let p = product_of (pos 1) a.a0 a.a0 in let q = product_of (pos 2) a.a1 a.a1 in let r = product_of (negsuc 2) a.a2 a.a2 in let s = product_of (negsuc 5) a.a3 a.a3 in
    short_most (p ∷ q ∷ r ∷ s ∷ [])
    (more p (q ∷ r ∷ s ∷ []) (short (pos 1) a.a0 a.a0 (lit≤ tt) h.a0 h.a0) (more q (r ∷ s ∷ []) (short (pos 2) a.a1 a.a1 (lit≤ tt) h.a1 h.a1)
    (more r (s ∷ []) (short (negsuc 2) a.a2 a.a2 (lit≤ tt) h.a2 h.a2) (more s [] (short (negsuc 5) a.a3 a.a3 (lit≤ tt) h.a3 h.a3) none))))

v_below : (a : Fraction4) → IsWithin4 (2 ^ 28) (short_of a) → unsigned_abs (norm_v a).value.n ≤ 2 ^ 61
unfolding norm_v
v_below a h =
    let p = product_of (pos 2) a.a0 a.a1 in let q = product_of (negsuc 5) a.a2 a.a3 in
    let m : unsigned_abs (sum_of (p ∷ q ∷ [])).value.n ≤ 2 ^ 60 = short_most (p ∷ q ∷ []) (more p (q ∷ []) (short (pos 2) a.a0 a.a1 (lit≤ tt) h.a0 h.a1) (more q [] (short (negsuc 5) a.a2 a.a3 (lit≤ tt) h.a2 h.a3) none)) in
    omega (arith, m)

-- the norm and the numerators

norm_narrow : (u v : Whole) → unsigned_abs u.n ≤ 2 ^ 61 → unsigned_abs v.n ≤ 2 ^ 61 → any_wide (norm u v).written ≡ false
unfolding norm
norm_narrow u v h k =
    pair_narrow (pos 1) (negsuc 1) u u v v (2 ^ 122) (lit≤ tt) (lit≤ tt) (product_size u.n u.n (2 ^ 61) (2 ^ 61) h h) (product_size v.n v.n (2 ^ 61) (2 ^ 61) k k) (lit≤ tt)

multiple_narrow : (d : Whole) (f g : ℤ) (x u y v : Whole) → unsigned_abs d.n ≤ 2 ^ 28 → unsigned_abs f ≤ 2 → unsigned_abs g ≤ 2 → unsigned_abs x.n ≤ 2 ^ 28 → unsigned_abs u.n ≤ 2 ^ 61 → unsigned_abs y.n ≤ 2 ^ 28 → unsigned_abs v.n ≤ 2 ^ 61
    → any_wide (multiple d (product_of f x u) (product_of g y v)).written ≡ false
unfolding multiple
multiple_narrow d f g x u y v dd ff gg xx uu yy vv =
    let p = product_of f x u in let q = product_of g y v in
    let a : unsigned_abs (x.n *ℤ u.n) ≤ 2 ^ 89 = product_size x.n u.n (2 ^ 28) (2 ^ 61) xx uu in
    let b : unsigned_abs (y.n *ℤ v.n) ≤ 2 ^ 89 = product_size y.n v.n (2 ^ 28) (2 ^ 61) yy vv in
    let s : unsigned_abs (sum_of (p ∷ q ∷ [])).value.n ≤ 2 ^ 91 = two_below p q (2 ^ 89) (term_below p (2 ^ 89) ff a) (term_below q (2 ^ 89) gg b) in
    let t : unsigned_abs (d.n *ℤ (sum_of (p ∷ q ∷ [])).value.n) ≤ 2 ^ 119 = product_size d.n (sum_of (p ∷ q ∷ [])).value.n (2 ^ 28) (2 ^ 91) dd s in
    then_all (sum_of (p ∷ q ∷ [])) (λ w. times d w) (pair_narrow f g x u y v (2 ^ 89) ff gg a b (lit≤ tt)) (written_all (d.n *ℤ (sum_of (p ∷ q ∷ [])).value.n) (2 ^ 119) t (lit≤ tt))

over_narrow : (a : Fraction4) (u v n : Whole) → IsWithin4 (2 ^ 28) (short_of a) → unsigned_abs u.n ≤ 2 ^ 61 → unsigned_abs v.n ≤ 2 ^ 61 → any_wide (inverse_over a u v n).written ≡ false
unfolding inverse_over
over_narrow a u v n h uu vv =
    let m : (f g : ℤ) (x y : Whole) → unsigned_abs f ≤ 2 → unsigned_abs g ≤ 2 → unsigned_abs x.n ≤ 2 ^ 28 → unsigned_abs y.n ≤ 2 ^ 28 → any_wide (multiple a.d (product_of f x u) (product_of g y v)).written ≡ false =
    λ f g x y hf hg hx hy. multiple_narrow a.d f g x u y v h.d hf hg hx uu hy vv in
    fraction_all
    (multiple a.d (product_of (pos 1) a.a0 u) (product_of (negsuc 1) a.a1 v)) (multiple a.d (product_of (pos 1) a.a1 u) (product_of (negsuc 0) a.a0 v))
    (multiple a.d (product_of (negsuc 0) a.a2 u) (product_of (pos 2) a.a3 v)) (multiple a.d (product_of (negsuc 0) a.a3 u) (product_of (pos 1) a.a2 v))
    (give n)
    (m (pos 1) (negsuc 1) a.a0 a.a1 (lit≤ tt) (lit≤ tt) h.a0 h.a1) (m (pos 1) (negsuc 0) a.a1 a.a0 (lit≤ tt) (lit≤ tt) h.a1 h.a0)
    (m (negsuc 0) (pos 2) a.a2 a.a3 (lit≤ tt) (lit≤ tt) h.a2 h.a3) (m (negsuc 0) (pos 1) a.a3 a.a2 (lit≤ tt) (lit≤ tt) h.a3 h.a2)
    refl

pub short_inverse : (a : Fraction4) → IsWithin4 (2 ^ 28) (short_of a) → any_wide (inverse a).written ≡ false
unfolding inverse
short_inverse a h =
    let u = (norm_u a).value in let v = (norm_v a).value in
    then_all (norm_u a) (λ u. then (norm_v a) (λ v. then (norm u v) (λ n. inverse_over a u v n))) (u_all a h)
    (then_all (norm_v a) (λ v. then (norm u v) (λ n. inverse_over a u v n)) (v_all a h)
    (then_all (norm u v) (λ n. inverse_over a u v n) (norm_narrow u v (u_below a h) (v_below a h))
    (over_narrow a u v (norm u v).value h (u_below a h) (v_below a h))))
