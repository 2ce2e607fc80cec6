-- The numbers c0 + c1 z + .. + c7 z^7 of whole coefficients as lists of eight whole numbers.
--
-- list8, member8: the eight in order, and back
-- eight: what makes fractions of them a field; eight_is: its laws
-- square8 x: four times the squared absolute value; squares_left, squares_right: a sum of two squares is 0 only where both are
-- no_parts: a number whose parts are 0 is 0
use Rattle.std.proofs.Common.{◌≡◌, ℕ, zero, suc, ◌*◌, ◌<◌, refl, sym, ap, ◌∙◌, arith, ℤ, pos, negsuc, ◌+ℤ◌, ◌*ℤ◌, List, [], ◌∷◌, length}
use Rattle.std.specs.Int.RustNames.{unsigned_abs}
use Rattle.std.proofs.lemmas.Int.{ints}
use Rattle.algebra.specs.Ring.{IsRing}
use Rattle.algebra.specs.Whole.{whole}
use Rattle.algebra.specs.WholeLaws.{whole_ring}
use Rattle.cyclo24.specs.Numerators.{IsNumerators}
use Rattle.cyclo24.specs.CommonLaws.{cancel_z}
use Rattle.algebra.specs.SolveLaws.{mul_neg, mul_zero}
use Rattle.algebra.specs.Solve.{exps}
use Rattle.cyclo24.specs.Four.{Four, add4, mul4, neg4, num4, norm4, adj4}
use Rattle.cyclo24.specs.FourLaws.{same4, mul4_adj, solve4, vars}
use Rattle.cyclo24.specs.FourNormLaws.{norm_zero, zero_from_abs, abs_square}
use Rattle.cyclo24.specs.Eight.{Eight, mul8, add8, neg8, num8}
use Rattle.cyclo24.specs.EightParts.{conj8, re8, im8, real8, i8}
use Rattle.cyclo24.specs.EightLaws.{eight_ring, same8, scaled8, re8-mul8, re8-conj8, im8-conj8, parts8, mul8-conj8, real8-mul4, real8-num4}
use Rattle.cyclo24.specs.EightNorm.{whole8, list8, member8, by_sign8, square8, adj8, norm8, eight, zero8}

pub whole8_ring : IsRing whole8
whole8_ring = eight_ring whole whole_ring

-- x adj = norm
regroup : (x c r f : Eight ℤ) → mul8 whole x (mul8 whole f (mul8 whole c r)) ≡ mul8 whole (mul8 whole f (mul8 whole x c)) r
regroup x c r f =
    let m = whole8_ring.mul_assoc in let k = whole8_ring.mul_comm in
    ap (λ w. mul8 whole x w) (sym (m f c r)) ∙ sym (m x (mul8 whole f c) r) ∙ ap (λ w. mul8 whole w r) (sym (m x f c) ∙ ap (λ w. mul8 whole w c) (k x f) ∙ m f x c)

pub adj8_is : (x : Eight ℤ) → mul8 whole x (adj8 x) ≡ num8 whole (norm8 x)
unfolding adj8 norm8 square8
adj8_is x =
    let s = re8 whole (mul8 whole x (conj8 whole x)) in
    regroup x (conj8 whole x) (real8 whole (adj4 whole s)) (num8 whole (pos 4))
    ∙ ap (λ w. mul8 whole w (real8 whole (adj4 whole s))) (mul8-conj8 whole whole_ring x)
    ∙ sym (real8-mul4 whole whole_ring s (adj4 whole s))
    ∙ ap (real8 whole) (mul4_adj whole whole_ring s)
    ∙ real8-num4 whole whole_ring (norm4 whole s)

no_square : (a : ℕ) → a * a ≡ 0 → a ≡ 0
no_square zero e = refl
no_square (suc a) e = absurd (omega arith)

squares : (a b c d e f g h : ℤ) → (a *ℤ a +ℤ pos 2 *ℤ (b *ℤ b) +ℤ pos 3 *ℤ (c *ℤ c) +ℤ pos 6 *ℤ (d *ℤ d)) +ℤ (e *ℤ e +ℤ pos 2 *ℤ (f *ℤ f) +ℤ pos 3 *ℤ (g *ℤ g) +ℤ pos 6 *ℤ (h *ℤ h)) ≡ pos 0
    → (unsigned_abs a * unsigned_abs a ≡ 0) × (unsigned_abs b * unsigned_abs b ≡ 0) × (unsigned_abs c * unsigned_abs c ≡ 0) × (unsigned_abs d * unsigned_abs d ≡ 0)
squares a b c d e f g h n = omega (arith, ints, abs_square a, abs_square b, abs_square c, abs_square d, abs_square e, abs_square f, abs_square g, abs_square h)

-- a sum of two squares of real numbers is 0 only where both are
pub squares_left : (u v : Four ℤ) → add4 whole (mul4 whole u u) (mul4 whole v v) ≡ num4 whole (pos 0) → u ≡ num4 whole (pos 0)
squares_left u v e =
    let s = squares u.c0 u.c1 u.c2 u.c3 v.c0 v.c1 v.c2 v.c3 (ap (λ (x : Four ℤ). x.c0) e) in
    same4 u (num4 whole (pos 0)) (zero_from_abs u.c0 (no_square (unsigned_abs u.c0) s.0)) (zero_from_abs u.c1 (no_square (unsigned_abs u.c1) s.1))
    (zero_from_abs u.c2 (no_square (unsigned_abs u.c2) s.2)) (zero_from_abs u.c3 (no_square (unsigned_abs u.c3) s.3))

add4_comm : (u v : Four ℤ) → add4 whole u v ≡ add4 whole v u
add4_comm u v = same4 (add4 whole u v) (add4 whole v u) (omega (arith, ints)) (omega (arith, ints)) (omega (arith, ints)) (omega (arith, ints))

pub squares_right : (u v : Four ℤ) → add4 whole (mul4 whole u u) (mul4 whole v v) ≡ num4 whole (pos 0) → v ≡ num4 whole (pos 0)
squares_right u v e = squares_left v u (add4_comm (mul4 whole v v) (mul4 whole u u) ∙ e)

-- u u - v (-v) is the sum of two squares
minus_minus : (u v : Four ℤ) → add4 whole (mul4 whole u u) (neg4 whole (mul4 whole v (neg4 whole v))) ≡ add4 whole (mul4 whole u u) (mul4 whole v v)
minus_minus u v = solve4 whole whole_ring u v v (add4 exps (mul4 exps (vars 0) (vars 0)) (neg4 exps (mul4 exps (vars 4) (neg4 exps (vars 4))))) (add4 exps (mul4 exps (vars 0) (vars 0)) (mul4 exps (vars 4) (vars 4))) refl refl refl refl

pub square8_is : (x : Eight ℤ) → mul4 whole (num4 whole (pos 4)) (square8 x) ≡ add4 whole (mul4 whole (re8 whole x) (re8 whole x)) (mul4 whole (im8 whole x) (im8 whole x))
unfolding square8
square8_is x =
    re8-mul8 whole whole_ring x (conj8 whole x)
    ∙ ap (λ w. add4 whole (mul4 whole (re8 whole x) w) (neg4 whole (mul4 whole (im8 whole x) (im8 whole (conj8 whole x))))) (re8-conj8 whole whole_ring x)
    ∙ ap (λ w. add4 whole (mul4 whole (re8 whole x) (re8 whole x)) (neg4 whole (mul4 whole (im8 whole x) w))) (im8-conj8 whole whole_ring x)
    ∙ minus_minus (re8 whole x) (im8 whole x)

four_zero : mul4 whole (num4 whole (pos 4)) (num4 whole (pos 0)) ≡ num4 whole (pos 0)
four_zero = refl

cancel8 : (d : ℕ) (x y : Eight ℤ) → 0 < d → mul8 whole (num8 whole (pos d)) x ≡ mul8 whole (num8 whole (pos d)) y → x ≡ y
cancel8 d x y p e =
    let f = sym (scaled8 whole whole_ring (pos d) x) ∙ e ∙ scaled8 whole whole_ring (pos d) y in
    same8 x y (cancel_z d x.c0 y.c0 p (ap (λ (z : Eight ℤ). z.c0) f)) (cancel_z d x.c1 y.c1 p (ap (λ (z : Eight ℤ). z.c1) f))
    (cancel_z d x.c2 y.c2 p (ap (λ (z : Eight ℤ). z.c2) f)) (cancel_z d x.c3 y.c3 p (ap (λ (z : Eight ℤ). z.c3) f))
    (cancel_z d x.c4 y.c4 p (ap (λ (z : Eight ℤ). z.c4) f)) (cancel_z d x.c5 y.c5 p (ap (λ (z : Eight ℤ). z.c5) f))
    (cancel_z d x.c6 y.c6 p (ap (λ (z : Eight ℤ). z.c6) f)) (cancel_z d x.c7 y.c7 p (ap (λ (z : Eight ℤ). z.c7) f))

-- what has no parts is 0
pub no_parts : (x : Eight ℤ) → re8 whole x ≡ num4 whole (pos 0) → im8 whole x ≡ num4 whole (pos 0) → x ≡ num8 whole (pos 0)
no_parts x a b =
    let r0 = real8-num4 whole whole_ring (pos 0) in
    cancel8 4 x zero8 (omega arith)
    (parts8 whole whole_ring x
    ∙ ap (λ w. add8 whole (real8 whole w) (mul8 whole (i8 whole) (real8 whole (im8 whole x)))) a
    ∙ ap (λ w. add8 whole (real8 whole (num4 whole (pos 0))) (mul8 whole (i8 whole) (real8 whole w))) b
    ∙ ap (λ w. add8 whole w (mul8 whole (i8 whole) w)) r0
    ∙ ap (λ w. add8 whole zero8 w) (mul_zero whole8 whole8_ring (i8 whole))
    ∙ whole8_ring.add_zero zero8
    ∙ sym (mul_zero whole8 whole8_ring (num8 whole (pos 4))))

pub square8-zero : (x : Eight ℤ) → square8 x ≡ num4 whole (pos 0) → x ≡ num8 whole (pos 0)
square8-zero x e =
    let s : add4 whole (mul4 whole (re8 whole x) (re8 whole x)) (mul4 whole (im8 whole x) (im8 whole x)) ≡ num4 whole (pos 0) = sym (square8_is x) ∙ ap (λ w. mul4 whole (num4 whole (pos 4)) w) e ∙ four_zero in
    no_parts x (squares_left (re8 whole x) (im8 whole x) s) (squares_right (re8 whole x) (im8 whole x) s)

pub norm8-zero : (x : Eight ℤ) → unsigned_abs (norm8 x) ≡ 0 → x ≡ num8 whole (pos 0)
unfolding norm8
norm8-zero x e = square8-zero x (norm_zero (square8 x) e)

-- x (y or -y) by the sign of n, where x y is n
cofactor8 : (x y : Eight ℤ) (n : ℤ) → mul8 whole x y ≡ num8 whole n → mul8 whole x (by_sign8 n y) ≡ num8 whole (pos (unsigned_abs n))
cofactor8 x y (pos n) e = e
cofactor8 x y (negsuc n) e = mul_neg whole8 whole8_ring x y ∙ ap (neg8 whole) e

-- a list of eight is made of its numbers
list-member8 : (xs : List ℤ) → length xs ≡ 8 → list8 (member8 xs) ≡ xs
list-member8 (a ∷ b ∷ c ∷ d ∷ e ∷ f ∷ g ∷ h ∷ []) p = refl
list-member8 [] p = absurd (omega arith)
list-member8 (a ∷ []) p = absurd (omega arith)
list-member8 (a ∷ b ∷ []) p = absurd (omega arith)
list-member8 (a ∷ b ∷ c ∷ []) p = absurd (omega arith)
list-member8 (a ∷ b ∷ c ∷ d ∷ []) p = absurd (omega arith)
list-member8 (a ∷ b ∷ c ∷ d ∷ e ∷ []) p = absurd (omega arith)
list-member8 (a ∷ b ∷ c ∷ d ∷ e ∷ f ∷ []) p = absurd (omega arith)
list-member8 (a ∷ b ∷ c ∷ d ∷ e ∷ f ∷ g ∷ []) p = absurd (omega arith)
list-member8 (a ∷ b ∷ c ∷ d ∷ e ∷ f ∷ g ∷ h ∷ i ∷ xs) p = absurd (omega arith)

pub eight_is : IsNumerators whole8 eight
eight_is = record {
  ring = whole8_ring;
  length-list = λ x. refl;
  member-list = λ x. refl;
  list-member = list-member8;
  negated = λ x. refl;
  added = λ x y. refl;
  scaled = λ k x. ap list8 (scaled8 whole whole_ring (pos k) x);
  num_apart = λ d p e. omega (arith, ints, ap (λ (z : Eight ℤ). z.c0) e);
  cofactor_is = λ x. cofactor8 x (adj8 x) (norm8 x) (adj8_is x);
  size-zero = norm8-zero;
}

pub above0 : 0 < 1
above0 = omega arith

pub above3 : 0 < 4
above3 = omega arith
