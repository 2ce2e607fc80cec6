-- Numbers over r2, r3 and r6 with whole coefficients as lists.
--
-- norm_zero: the norm is zero at zero alone, since the square roots of 2 and 3 are no fractions
-- four: such numbers as the list of their coefficients
-- four_is: its laws
use Rattle.std.proofs.Common.{◌≡◌, suc, ◌+◌, ◌*◌, refl, sym, ap, ◌∙◌, arith, ℤ, pos, negsuc, ◌+ℤ◌, ◌*ℤ◌, neg_ℤ, List, [], ◌∷◌, length}
use Rattle.std.specs.Int.RustNames.{unsigned_abs}
use Rattle.std.proofs.lemmas.Int.{ints, unsigned_abs-mul}
use Rattle.algebra.specs.SolveLaws.{mul_neg}
use Rattle.algebra.specs.Whole.{whole}
use Rattle.algebra.specs.WholeLaws.{whole_ring}
use Rattle.cyclo24.specs.Four.{Four, mul4, num4, neg4, norm4, adj4, norm_u, norm_v, four_ops}
use Rattle.cyclo24.specs.FourLaws.{four_ring, same4, mul4_adj, scaled}
use Rattle.cyclo24.specs.RootsLaws.{root2, root3}
use Rattle.cyclo24.specs.Numerators.{IsNumerators}
use Rattle.cyclo24.specs.FourNorm.{by_sign, whole4, list4, member4, four}

pub zero_from_abs : (z : ℤ) → unsigned_abs z ≡ 0 → z ≡ pos 0
zero_from_abs (pos n) e = ap pos e
zero_from_abs (negsuc n) e = absurd (omega arith)

pub abs_square : (z : ℤ) → z *ℤ z ≡ pos (unsigned_abs z * unsigned_abs z)
abs_square (pos n) = refl
abs_square (negsuc n) = refl

pub norm_zero : (x : Four ℤ) → unsigned_abs (norm4 whole x) ≡ 0 → x ≡ num4 whole (pos 0)
norm_zero x e =
    let u = norm_u whole x in
    let v = norm_v whole x in
    let n : norm4 whole x ≡ pos 0 = zero_from_abs (norm4 whole x) e in
    let uv : unsigned_abs u * unsigned_abs u ≡ 2 * (unsigned_abs v * unsigned_abs v) = norm_squares u v n in
    let r = root2 (suc (unsigned_abs u + unsigned_abs v)) (unsigned_abs u) (unsigned_abs v) (omega arith) uv in
    let a = unsigned_abs x.c0 in let b = unsigned_abs x.c1 in let c = unsigned_abs x.c2 in let d = unsigned_abs x.c3 in
    let s = root3 (suc (a + b + (c + d))) a b c d (omega arith) (u_squares x.c0 x.c1 x.c2 x.c3 (zero_from_abs u r.0)) (v_products x.c0 x.c1 x.c2 x.c3 (zero_from_abs v r.1)) in
    same4 x (num4 whole (pos 0)) (zero_from_abs x.c0 s.0) (zero_from_abs x.c1 s.1) (zero_from_abs x.c2 s.2) (zero_from_abs x.c3 s.3)
  where
    norm_squares : (u v : ℤ) → u *ℤ u +ℤ neg_ℤ (pos 2 *ℤ (v *ℤ v)) ≡ pos 0 → unsigned_abs u * unsigned_abs u ≡ 2 * (unsigned_abs v * unsigned_abs v)
    norm_squares u v n = omega (arith, ints, abs_square u, abs_square v)

    u_squares : (a b c d : ℤ) → a *ℤ a +ℤ pos 2 *ℤ (b *ℤ b) +ℤ neg_ℤ (pos 3 *ℤ (c *ℤ c)) +ℤ neg_ℤ (pos 6 *ℤ (d *ℤ d)) ≡ pos 0
        → unsigned_abs a * unsigned_abs a + 2 * (unsigned_abs b * unsigned_abs b) ≡ 3 * (unsigned_abs c * unsigned_abs c + 2 * (unsigned_abs d * unsigned_abs d))
    u_squares a b c d n = omega (arith, ints, abs_square a, abs_square b, abs_square c, abs_square d)

    v_products : (a b c d : ℤ) → pos 2 *ℤ (a *ℤ b) +ℤ neg_ℤ (pos 6 *ℤ (c *ℤ d)) ≡ pos 0 → unsigned_abs a * unsigned_abs b ≡ 3 * (unsigned_abs c * unsigned_abs d)
    v_products a b c d n =
        let e : a *ℤ b ≡ pos 3 *ℤ (c *ℤ d) = omega (arith, ints) in
        sym (unsigned_abs-mul a b) ∙ ap unsigned_abs e ∙ unsigned_abs-mul (pos 3) (c *ℤ d) ∙ ap (λ n. 3 * n) (unsigned_abs-mul c d)

-- x (y or -y) by the sign of n, where x y is n
cofactor4 : (x y : Four ℤ) (n : ℤ) → mul4 whole x y ≡ num4 whole n → mul4 whole x (by_sign n y) ≡ num4 whole (pos (unsigned_abs n))
cofactor4 x y (pos n) e = e
cofactor4 x y (negsuc n) e = mul_neg (four_ops whole) (four_ring whole whole_ring) x y ∙ ap (neg4 whole) e

list4-member4 : (xs : List ℤ) → length xs ≡ 4 → list4 (member4 xs) ≡ xs
list4-member4 [] e = absurd (omega arith)
list4-member4 (a ∷ []) e = absurd (omega arith)
list4-member4 (a ∷ b ∷ []) e = absurd (omega arith)
list4-member4 (a ∷ b ∷ c ∷ []) e = absurd (omega arith)
list4-member4 (a ∷ b ∷ c ∷ d ∷ []) e = refl
list4-member4 (a ∷ b ∷ c ∷ d ∷ f ∷ xs) e = absurd (omega arith)

pub four_is : IsNumerators whole4 four
four_is = record {
  ring = four_ring whole whole_ring;
  length-list = λ x. refl;
  member-list = λ x. refl;
  list-member = list4-member4;
  negated = λ x. refl;
  added = λ x y. refl;
  scaled = λ k x. ap list4 (scaled whole whole_ring (pos k) x);
  num_apart = λ d p e. omega (arith, ints, ap (λ (z : Four ℤ). z.c0) e);
  cofactor_is = λ x. cofactor4 x (adj4 whole x) (norm4 whole x) (mul4_adj whole whole_ring x);
  size-zero = norm_zero;
}
