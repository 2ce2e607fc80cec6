-- The greatest common divisor by its properties.
--
-- gcd_is: it divides both, and each common divisor divides it
-- gcd_scale, gcd_zero, gcd_step, gcd_below, gcd_positive: of multiples, with 0, one step of Euclid's, its size
use Rattle.std.proofs.Common.{◌≡◌, ℕ, zero, suc, ◌*◌, ◌/◌, ◌%◌, ◌<◌, ◌≤◌, refl, sym, subst, arith}
use Prim.Native.Nat.{◌∣◌}
use Rattle.std.specs.Int.{IsGcd}
use Rattle.std.proofs.lemmas.Nat.Gcd.{IsGcd-from_zero, IsGcd-from_mod, same_from_IsGcd, dvd_trans, le_of_dvd}
use Rattle.std.proofs.Math.Nat.{mul-dvd-mul_left, dvd_of_mul-dvd-mul_left, mul-div_cancel', dvd-mul_right, pos_of_dvd_of_pos}
use Rattle.cyclo24.specs.Gcd.{gcd, gcd_steps}

gcd_steps_is : (k a b : ℕ) → b < k → IsGcd a b (gcd_steps k a b)
gcd_steps_is zero a b p = absurd (omega arith)
gcd_steps_is (suc k) a zero p = IsGcd-from_zero a 0 refl
gcd_steps_is (suc k) a (suc b) p = IsGcd-from_mod a (suc b) (gcd_steps k (suc b) (a % suc b)) (gcd_steps_is k (suc b) (a % suc b) (omega arith))

pub gcd_is : (a b : ℕ) → IsGcd a b (gcd a b)
unfolding gcd
gcd_is a b = gcd_steps_is (suc b) a b (omega arith)

-- of multiples
pub gcd_scale : (c a b : ℕ) → 0 < c → gcd (c * a) (c * b) ≡ c * gcd a b
gcd_scale c a b p =
    let g = gcd_is a b in
    let h = gcd_is (c * a) (c * b) in
    let m = gcd (c * a) (c * b) / c in
    let whole : c * m ≡ gcd (c * a) (c * b) = mul-div_cancel' c (h.2 c (dvd-mul_right c a) (dvd-mul_right c b)) in
    let m_a : m ∣ a = dvd_of_mul-dvd-mul_left m p (subst (λ n. n ∣ c * a) (sym whole) h.0) in
    let m_b : m ∣ b = dvd_of_mul-dvd-mul_left m p (subst (λ n. n ∣ c * b) (sym whole) h.1) in
    let up : gcd (c * a) (c * b) ∣ c * gcd a b = subst (λ n. n ∣ c * gcd a b) whole (mul-dvd-mul_left m c (g.2 m m_a m_b)) in
    same_from_IsGcd (c * a) (c * b) (gcd (c * a) (c * b)) (c * gcd a b) h
    (mul-dvd-mul_left (gcd a b) c g.0, mul-dvd-mul_left (gcd a b) c g.1, λ d x y. dvd_trans d (h.2 d x y) up)

pub gcd_zero : (a b : ℕ) → b ≡ 0 → gcd a b ≡ a
gcd_zero a b e = same_from_IsGcd a b (gcd a b) a (gcd_is a b) (IsGcd-from_zero a b e)

-- one step of Euclid's
pub gcd_step : (a b : ℕ) → gcd b (a % b) ≡ gcd a b
gcd_step a b = same_from_IsGcd a b (gcd b (a % b)) (gcd a b) (IsGcd-from_mod a b (gcd b (a % b)) (gcd_is b (a % b))) (gcd_is a b)

-- it is no greater than a number above which both are
pub gcd_below : (a b m : ℕ) → a < m → b < m → gcd a b < m
gcd_below zero zero m p q = subst (λ n. n < m) (sym (gcd_zero zero zero refl)) p
gcd_below (suc a) b m p q = let h : gcd (suc a) b ≤ suc a = le_of_dvd (omega arith) (gcd_is (suc a) b).0 in omega arith
gcd_below zero (suc b) m p q = let h : gcd zero (suc b) ≤ suc b = le_of_dvd (omega arith) (gcd_is zero (suc b)).1 in omega arith

pub gcd_positive : (a b : ℕ) → 0 < b → 0 < gcd a b
gcd_positive a b p = pos_of_dvd_of_pos (gcd_is a b).1 p
