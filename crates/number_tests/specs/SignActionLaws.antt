-- The group of two elements acts on a line by a sign.
--
-- lift-value: an exact value is that of its list
-- sign_lawful: the laws of an action hold
-- sign_first, sign_plus, sign_minus: the number of an element, by cases
-- sign_row: a row of one number
use Rattle.std.proofs.Common.{◌≡◌, refl, sym, ap, ◌∙◌, ℕ, zero, suc, ◌<◌, Bool, true, false, ℤ, List, [], ◌∷◌, length, set, arith}
use mathlib.Core.Bool.{Bool-set}
use Rattle.algebra.specs.NumberedGroup.{IsGroup, IsGenerated, word}
use Rattle.cyclo24.specs.ExactField.{ExactField, Value}
use Rattle.cyclo24.specs.FieldLaws.{nought-plus, neg-neg, times-neg}
use Rattle.lin_alg.specs.Action.{Action, IsAction, entry_of, lift, lift_by}
use Rattle.lin_alg.specs.Matrices.{AreEqualBelow, mul, unit_entry, IsRepresentation}
use Rattle.lin_alg.specs.Rows.{vector}
use Rattle.number_tests.specs.SignAction.{sign_action, sign_group, sign_product, sign_value}

sign_group-lawful : IsGroup sign_group
sign_group-lawful = record {
  product_below = below;
  inverse_below = λ a l. l;
  identity_below = omega arith;
  identity-product = λ a l. refl;
  inverse-product = back;
  product_assoc = assoc;
}
  where
    below : (a b : ℕ) → a < 2 → b < 2 → sign_product a b < 2
    below zero b l m = m
    below (suc a) zero l m = l
    below (suc a) (suc b) l m = omega arith

    back : (a : ℕ) → a < 2 → sign_product a a ≡ 0
    back zero l = refl
    back (suc a) l = refl

    one : (a : ℕ) → suc a < 2 → suc a ≡ 1
    one a l = omega arith

    assoc : (a b c : ℕ) → a < 2 → b < 2 → c < 2 → sign_product (sign_product a b) c ≡ sign_product a (sign_product b c)
    assoc zero b c l m n = refl
    assoc (suc a) zero c l m n = refl
    assoc (suc a) (suc b) zero l m n = refl
    assoc (suc a) (suc b) (suc c) l m n = one c n ∙ sym (one a l)

generated : IsGenerated sign_group 1 (λ i. 1)
generated zero l = ∣ ([], tt, refl) ∣₁
generated (suc a) l = let one : suc a ≡ 1 = omega arith in ∣ (0 ∷ [], (omega arith, tt), one) ∣₁

module _ (f : ExactField) where
  lift_by-value : (x : Value f) (b : Bool) (e : f.valid x.0 ≡ b) → lift_by f.laws x.0 b e ≡ x
  lift_by-value x true e = λ i. (x.0, Bool-set (f.valid x.0) true e x.1 i)
  lift_by-value x false e = absurd (differ (sym x.1 ∙ e)) where
    differ : true ≡ false → ⊥
    differ h = cc

  pub lift-value : (x : Value f) → lift f.laws x.0 ≡ x
  lift-value x = lift_by-value x (f.valid x.0) refl

  -- the numbers multiply as the elements
  value-product : (minus : Bool) (a b : ℕ) → sign_value f minus (sign_product a b) ≡ f.laws.times (sign_value f minus a) (sign_value f minus b)
  value-product minus zero b = sym (f.laws.times_comm f.laws.unit (sign_value f minus b) ∙ f.laws.times-unit (sign_value f minus b))
  value-product true (suc a) zero = sym (f.laws.times-unit (f.laws.neg f.laws.unit))
  value-product false (suc a) zero = sym (f.laws.times-unit f.laws.unit)
  value-product true (suc a) (suc b) =
      sym (times-neg f.laws (f.laws.neg f.laws.unit) f.laws.unit ∙ ap f.laws.neg (f.laws.times-unit (f.laws.neg f.laws.unit)) ∙ neg-neg f.laws f.laws.unit)
  value-product false (suc a) (suc b) = sym (f.laws.times-unit f.laws.unit)

  module _ (minus : Bool) where
    entry-value : (q i j : ℕ) → entry_of f.laws (sign_action f minus) q i j ≡ sign_value f minus q
    entry-value q i j = lift-value (sign_value f minus q)

    unit : AreEqualBelow 1 (entry_of f.laws (sign_action f minus) 0) (unit_entry f.laws)
    unit zero zero l m = entry-value 0 0 0
    unit zero (suc j) l m = absurd (omega arith)
    unit (suc i) j l m = absurd (omega arith)

    multiplies : IsRepresentation f.laws sign_group 1 (entry_of f.laws (sign_action f minus))
    multiplies a b la lb i j l m =
        entry-value (sign_product a b) i j ∙ value-product minus a b
        ∙ sym (nought-plus f.laws (f.laws.times (entry_of f.laws (sign_action f minus) a i 0) (entry_of f.laws (sign_action f minus) b 0 j))
        ∙ (λ t. f.laws.times (entry-value a i 0 t) (entry-value b 0 j t)))

    pub sign_lawful : IsAction f.laws (sign_action f minus)
    sign_lawful = record {
      group = sign_group-lawful;
      generator_below = λ i l. omega arith;
      generated = generated;
      entry_valid = λ q i j l m n. (sign_value f minus q).1;
      identity = unit;
      multiplies = multiplies;
    }

  -- the number of an element, by cases
  pub sign_first : (minus : Bool) (q : ℕ) (x : Value f) → x ≡ f.laws.unit → q ≡ 0 → x ≡ sign_value f minus q
  sign_first minus zero x e z = e
  sign_first minus (suc q) x e z = absurd (omega (arith, z))

  pub sign_plus : (minus : Bool) (q : ℕ) (x : Value f) → x ≡ f.laws.unit → minus ≡ false → x ≡ sign_value f minus q
  sign_plus true q x e z = absurd (differ z) where
    differ : true ≡ false → ⊥
    differ h = cc
  sign_plus false zero x e z = e
  sign_plus false (suc q) x e z = e

  pub sign_minus : (minus : Bool) (q : ℕ) (x y : Value f) → x ≡ f.laws.neg y → y ≡ f.laws.unit → minus ≡ true → (q ≡ 0 → ⊥) → x ≡ sign_value f minus q
  sign_minus true zero x y e d z n = absurd (n refl)
  sign_minus true (suc q) x y e d z n = e ∙ ap f.laws.neg d
  sign_minus false q x y e d z n = absurd (differ z) where
    differ : false ≡ true → ⊥
    differ h = cc

  -- a row of one number
  pub sign_row : {T : Type 0} (value : T → Value f) (minus : Bool) (q i : ℕ) (x : T) (xs : List T) → length xs ≡ 1 → value x ≡ sign_value f minus q
      → (j : ℕ) → j < 1 → vector f.laws value (set xs 0 x) j ≡ entry_of f.laws (sign_action f minus) q i j
  sign_row value minus q i x [] n e j l = absurd (omega (arith, n))
  sign_row value minus q i x (y ∷ ys) n e zero l = e ∙ sym (lift-value (sign_value f minus q))
  sign_row value minus q i x (y ∷ ys) n e (suc j) l = absurd (omega arith)
