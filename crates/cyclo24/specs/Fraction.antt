-- Fractions in lowest terms: a member of a ring over a positive number.
--
-- Content o: what is asked of the ring o, and IsContent its laws
-- Fraction c: a top and a positive low without a common divisor
use Rattle.std.specs.Prelude.{◌≡◌, ◌≢◌, ℕ, ◌*◌, ◌<◌, Bool, true, false}
use Prim.Native.Nat.{◌∣◌}
use Rattle.algebra.specs.Ring.{Ops, IsRing}

-- the greatest number that divides a member and a number, and what is left of a member
pub record Content {R : Type 0} (o : Ops R) : Type 0 where
  pub content : R → ℕ → ℕ
  pub divide : R → ℕ → R
  -- x (cofactor x) is the number size x
  pub cofactor : R → R
  pub size : R → ℕ
  pub is_zero : R → Bool

pub record IsContent {R : Type 0} (o : Ops R) (c : Content o) : Type 0 where
  pub ring : IsRing o
  pub cancel : (d : ℕ) (x y : R) → 0 < d → o.mul (o.num d) x ≡ o.mul (o.num d) y → x ≡ y
  pub num_apart : (d : ℕ) → 0 < d → o.num d ≢ o.num 0
  pub positive : (x : R) (d : ℕ) → 0 < d → 0 < c.content x d
  pub divides : (x : R) (d : ℕ) → 0 < d → c.content x d ∣ d
  pub divide_is : (x : R) (d : ℕ) → 0 < d → o.mul (o.num (c.content x d)) (c.divide x (c.content x d)) ≡ x
  pub scale : (k : ℕ) (x : R) (d : ℕ) → 0 < k → 0 < d → c.content (o.mul (o.num k) x) (k * d) ≡ k * c.content x d
  pub cofactor_is : (x : R) → o.mul x (c.cofactor x) ≡ o.num (c.size x)
  pub size_is : (x : R) → c.is_zero x ≡ false → 0 < c.size x
  pub is_zero-true : (x : R) → c.is_zero x ≡ true → x ≡ o.num 0
  pub is_zero-zero : c.is_zero (o.num 0) ≡ true

pub record Fraction {R : Type 0} {o : Ops R} (c : Content o) : Type 0 where
  pub top : R
  pub low : ℕ
  pub positive : 0 < low
  pub lowest : c.content top low ≡ 1
