-- Fields.
--
-- FieldOn K: the operations of a field on the type K, and its laws
-- ones f n: the sum of n ones
use Rattle.std.specs.Prelude.{◌≡◌, ℕ, suc, zero, Bool, true, false}

-- a field on the type K
pub record FieldOn (K : Type 0) : Type 0 where
  pub nought : K
  pub unit : K
  pub neg : K → K
  pub plus : K → K → K
  pub times : K → K → K
  pub inverse : K → K
  pub is_nought : K → Bool
  pub plus_comm : (x y : K) → plus x y ≡ plus y x
  pub plus_assoc : (x y z : K) → plus (plus x y) z ≡ plus x (plus y z)
  pub plus-nought : (x : K) → plus x nought ≡ x
  pub plus-neg : (x : K) → plus x (neg x) ≡ nought
  pub times_comm : (x y : K) → times x y ≡ times y x
  pub times_assoc : (x y z : K) → times (times x y) z ≡ times x (times y z)
  pub times-unit : (x : K) → times x unit ≡ x
  pub times-plus : (x y z : K) → times x (plus y z) ≡ plus (times x y) (times x z)
  pub times-inverse : (x : K) → is_nought x ≡ false → times x (inverse x) ≡ unit
  pub is_nought-true : (x : K) → is_nought x ≡ true → x ≡ nought
  pub is_nought-nought : is_nought nought ≡ true
  pub is_nought-unit : is_nought unit ≡ false

-- the sum of n ones
abbrev pub ones : {K : Type 0} → FieldOn K → ℕ → K
ones f zero = f.nought
ones f (suc n) = f.plus f.unit (ones f n)
