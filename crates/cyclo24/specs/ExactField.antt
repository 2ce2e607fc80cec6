-- Exact values: lists of whole numbers without a bound, and what a field of them is.
--
-- Exact valid: the lists that the test allows
-- ExactField: a field of exact values, of characteristic zero and ordered, with its wide operations
-- Value f: the exact values of f
-- lift f x: the exact value that the list x is, and 0 where it is none
use Rattle.std.specs.Prelude.{◌≡◌, ℕ, suc, ℤ, Bool, true, false, List, refl}
use Rattle.std.specs.declared.cmp.Ordering.{Ordering}
use Rattle.std.specs.declared.cmp.Ordering.TheVariants.{Equal}
use Rattle.std.specs.Cmp.{IsTotalOrder}
use Rattle.cyclo24.specs.FieldOn.{FieldOn, ones}

-- a list of whole numbers that the test allows
abbrev pub Exact : (List ℤ → Bool) → Type 0
Exact valid = (x : List ℤ) × (valid x ≡ true)

-- a field of exact values
pub record ExactField : Type 0 where
  pub valid : List ℤ → Bool
  pub laws : FieldOn (Exact valid)
  pub characteristic_zero : (n : ℕ) → laws.is_nought (ones laws (suc n)) ≡ false
  pub is_wide_sum : Exact valid → Exact valid → Bool
  pub is_wide_difference : Exact valid → Exact valid → Bool
  pub is_wide_product : Exact valid → Exact valid → Bool
  pub is_wide_inverse : Exact valid → Bool
  pub cmp : Exact valid → Exact valid → Ordering
  pub cmp_total : IsTotalOrder cmp
  pub cmp-Equal : (x y : Exact valid) → cmp x y ≡ Equal → x ≡ y

abbrev pub Value : ExactField → Type 0
Value f = Exact f.valid

abbrev pub lift_by : (f : ExactField) (x : List ℤ) (b : Bool) → f.valid x ≡ b → Value f
lift_by f x true e = (x, e)
lift_by f x false e = f.laws.nought

-- the exact value that a list is, and 0 where it is none
abbrev pub lift : (f : ExactField) → List ℤ → Value f
lift f x = lift_by f x (f.valid x) refl
