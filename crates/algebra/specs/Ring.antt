-- Commutative rings.
--
-- Ops A: numerals, negatives, sums and products on the type A
-- IsRing o: these obey the laws of a commutative ring, and the numerals count ones
use Rattle.std.specs.Prelude.{◌≡◌, ℕ, suc}

-- numerals and operations
pub record Ops (A : Type 0) : Type 0 where
  pub num : ℕ → A
  pub neg : A → A
  pub add : A → A → A
  pub mul : A → A → A

pub record IsRing {A : Type 0} (o : Ops A) : Type 0 where
  pub add_assoc : (x y z : A) → o.add (o.add x y) z ≡ o.add x (o.add y z)
  pub add_comm : (x y : A) → o.add x y ≡ o.add y x
  pub add_zero : (x : A) → o.add (o.num 0) x ≡ x
  pub add_neg : (x : A) → o.add x (o.neg x) ≡ o.num 0
  pub mul_assoc : (x y z : A) → o.mul (o.mul x y) z ≡ o.mul x (o.mul y z)
  pub mul_comm : (x y : A) → o.mul x y ≡ o.mul y x
  pub mul_one : (x : A) → o.mul (o.num 1) x ≡ x
  pub mul_add : (x y z : A) → o.mul x (o.add y z) ≡ o.add (o.mul x y) (o.mul x z)
  pub num_suc : (n : ℕ) → o.num (suc n) ≡ o.add (o.num 1) (o.num n)
