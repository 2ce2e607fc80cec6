-- Sign changes are an action.
--
-- flips_lawful: the laws of an action hold
-- entry-value: the entries of the matrices as values
-- flip_first, flip_second: the sign of a digit, by cases
-- flip_row: a row of zeros but for one sign
use Rattle.std.proofs.Common.{◌≡◌, refl, sym, ap, ◌∙◌, subst, ℕ, zero, suc, ◌<◌, ◌+◌, ◌-◌, ◌*◌, ◌^◌, ◌%◌, ◌⊎◌, inl, inr, Bool, true, false, List, [], ◌∷◌, nat_eq, if◌then◌else◌, arith}
use Rattle.std.specs.Int.Bits.{bit_xor, xor_self, xor_zero_l, xor_assoc, xor_shifted}
use Rattle.std.specs.Int.{bit_at}
use Rattle.std.proofs.lemmas.Nat.{xor_lt, pow_pos, pow_below}
use Rattle.std.proofs.lemmas.Nat.Bits.{bit_at-zero, bit_at_xor}
use mathlib.Core.Bool.{Bool-set}
use Rattle.algebra.specs.NumberedGroup.{IsGroup, IsGenerated, AllBelow, word}
use Rattle.cyclo24.specs.ExactField.{ExactField, Value}
use Rattle.cyclo24.specs.FieldLaws.{neg-neg, times-neg, times-nought, nought-times}
use Rattle.cyclo24.specs.SumLaws.{one-term}
use Rattle.lin_alg.specs.Action.{IsAction, entry_of, lift, lift_by}
use Rattle.lin_alg.specs.EquationLaws.{dec, eq-self, eq-other}
use Rattle.lin_alg.specs.Matrices.{AreEqualBelow, unit_entry, IsRepresentation, mul}
use Rattle.lattice_tests.specs.Flips.{flip_group, flip_sign, flip_entry, flips}

double : (n : ℕ) → 2 ^ suc n ≡ 2 ^ n + 2 ^ n
double n = let e : suc n ≡ n + 1 = omega arith in omega arith

below_more : (n : ℕ) (is : List ℕ) → AllBelow n is → AllBelow (suc n) is
below_more n [] h = tt
below_more n (i ∷ is) h = let l = h.0 in (omega arith, below_more n is h.1)

-- each number below 2^n is a sum of different powers of 2
digits : (n a : ℕ) → a < 2 ^ n → (is : List ℕ) × AllBelow n is × (a ≡ word bit_xor (λ i. 2 ^ i) is)
digits zero a l = let e : a ≡ 0 = omega arith in ([], tt, e)
digits (suc n) a l =
    elim (dec a (2 ^ n)) [
      | inl m ↦ let w = digits n a m in (w.0, below_more n w.0 w.1, w.2)
      | inr m ↦
          let e = double n in
          let r : ℕ = a - 2 ^ n in
          let rl : r < 2 ^ n = omega arith in
          let w = digits n r rl in
          let top : n < suc n = omega arith in
          let one : 1 * 2 ^ n ≡ 2 ^ n = omega arith in
          let back : bit_xor (2 ^ n) r ≡ a = sym (ap (λ z. bit_xor z r) one) ∙ xor_shifted 1 n r rl ∙ omega arith in
          (n ∷ w.0, (top, below_more n w.0 w.1), sym back ∙ ap (bit_xor (2 ^ n)) w.2)
    ]

flip_group-lawful : (n : ℕ) → IsGroup (flip_group n)
flip_group-lawful n = record {
  product_below = xor_lt n;
  inverse_below = λ a l. l;
  identity_below = pow_pos n;
  identity-product = λ a l. xor_zero_l a;
  inverse-product = λ a l. xor_self a;
  product_assoc = λ a b c l m k. xor_assoc a b c;
}

generated : (n : ℕ) → IsGenerated (flip_group n) n (λ i. 2 ^ i)
generated n a l = ∣ digits n a l ∣₁

digit : (q i : ℕ) → (bit_at q i ≡ 0) ⊎ (bit_at q i ≡ 1)
digit q i = grind arith

alike : (i j : ℕ) → (i ≡ j) ⊎ (i ≡ j → ⊥)
alike i j = grind arith

module _ (f : ExactField) where
  lift_by-value : (x : Value f) (b : Bool) (e : f.valid x.0 ≡ b) → lift_by f.laws x.0 b e ≡ x
  lift_by-value x true e = λ i. (x.0, Bool-set (f.valid x.0) true e x.1 i)
  lift_by-value x false e = absurd (differ (sym x.1 ∙ e)) where
    differ : true ≡ false → ⊥
    differ h = cc

  lift-value : (x : Value f) → lift f.laws x.0 ≡ x
  lift-value x = lift_by-value x (f.valid x.0) refl

  -- signs multiply as digits add
  sign-sum : (x y : ℕ) → (x ≡ 0) ⊎ (x ≡ 1) → (y ≡ 0) ⊎ (y ≡ 1) → flip_sign f ((x + y) % 2) ≡ f.laws.times (flip_sign f x) (flip_sign f y)
  sign-sum x y (inl e) (inl h) =
      (λ t. flip_sign f ((e t + h t) % 2)) ∙ sym (f.laws.times-unit f.laws.unit) ∙ sym (λ t. f.laws.times (flip_sign f (e t)) (flip_sign f (h t)))
  sign-sum x y (inl e) (inr h) =
      (λ t. flip_sign f ((e t + h t) % 2)) ∙ sym (f.laws.times_comm f.laws.unit (f.laws.neg f.laws.unit) ∙ f.laws.times-unit (f.laws.neg f.laws.unit)) ∙ sym (λ t. f.laws.times (flip_sign f (e t)) (flip_sign f (h t)))
  sign-sum x y (inr e) (inl h) =
      (λ t. flip_sign f ((e t + h t) % 2)) ∙ sym (f.laws.times-unit (f.laws.neg f.laws.unit)) ∙ sym (λ t. f.laws.times (flip_sign f (e t)) (flip_sign f (h t)))
  sign-sum x y (inr e) (inr h) =
      (λ t. flip_sign f ((e t + h t) % 2))
      ∙ sym (times-neg f.laws (f.laws.neg f.laws.unit) f.laws.unit ∙ ap f.laws.neg (f.laws.times-unit (f.laws.neg f.laws.unit)) ∙ neg-neg f.laws f.laws.unit)
      ∙ sym (λ t. f.laws.times (flip_sign f (e t)) (flip_sign f (h t)))

  entry-own : (q i : ℕ) → flip_entry f q i i ≡ flip_sign f (bit_at q i)
  entry-own q i = ap (λ b. if b then flip_sign f (bit_at q i) else f.laws.nought) (eq-self i)

  entry-other : (q i j : ℕ) → (i ≡ j → ⊥) → flip_entry f q i j ≡ f.laws.nought
  entry-other q i j n = ap (λ b. if b then flip_sign f (bit_at q i) else f.laws.nought) (eq-other i j n)

  module _ (n : ℕ) where
    -- the entries of the matrices as values
    pub entry-value : (q i j : ℕ) → entry_of f.laws (flips f n) q i j ≡ flip_entry f q i j
    entry-value q i j = lift-value (flip_entry f q i j)

    unit : AreEqualBelow n (entry_of f.laws (flips f n) 0) (unit_entry f.laws)
    unit i j l m = entry-value 0 i j ∙ ap (λ d. if nat_eq i j then flip_sign f d else f.laws.nought) (bit_at-zero i)

    -- the one product that isn't 0
    product : (a b i j : ℕ) → i < n → mul f.laws n (flip_entry f a) (flip_entry f b) i j ≡ f.laws.times (flip_sign f (bit_at a i)) (flip_entry f b i j)
    product a b i j l =
        one-term f.laws n i (λ k. f.laws.times (flip_entry f a i k) (flip_entry f b k j)) l
        (λ k m d. ap (λ z. f.laws.times z (flip_entry f b k j)) (entry-other a i k (λ e. d (sym e))) ∙ nought-times f.laws (flip_entry f b k j))
        ∙ ap (λ z. f.laws.times z (flip_entry f b i j)) (entry-own a i)

    entries : (a b i j : ℕ) → flip_entry f (bit_xor a b) i j ≡ f.laws.times (flip_sign f (bit_at a i)) (flip_entry f b i j)
    entries a b i j =
        elim (alike i j) [
          | inl e ↦
              subst (λ (z : ℕ). flip_entry f (bit_xor a b) i z ≡ f.laws.times (flip_sign f (bit_at a i)) (flip_entry f b i z)) e
              (entry-own (bit_xor a b) i ∙ ap (flip_sign f) (bit_at_xor a b i) ∙ sign-sum (bit_at a i) (bit_at b i) (digit a i) (digit b i)
              ∙ sym (ap (f.laws.times (flip_sign f (bit_at a i))) (entry-own b i)))
          | inr d ↦ entry-other (bit_xor a b) i j d ∙ sym (ap (f.laws.times (flip_sign f (bit_at a i))) (entry-other b i j d) ∙ times-nought f.laws (flip_sign f (bit_at a i)))
        ]

    multiplies : IsRepresentation f.laws (flip_group n) n (entry_of f.laws (flips f n))
    multiplies a b la lb i j l m =
        entry-value (bit_xor a b) i j ∙ entries a b i j ∙ sym (product a b i j l)
        ∙ sym (λ t. mul f.laws n (λ x y. entry-value a x y t) (λ x y. entry-value b x y t) i j)

    pub flips_lawful : IsAction f.laws (flips f n)
    flips_lawful = record {
      group = flip_group-lawful n;
      generator_below = λ i l. pow_below i n l;
      generated = generated n;
      entry_valid = λ q i j l m k. (flip_entry f q i j).1;
      identity = unit;
      multiplies = multiplies;
    }

  -- the sign of a digit, by cases
  pub flip_first : (d : ℕ) (x : Value f) → x ≡ f.laws.unit → d ≡ 0 → x ≡ flip_sign f d
  flip_first zero x e z = e
  flip_first (suc d) x e z = absurd (omega (arith, z))

  pub flip_second : (d : ℕ) (x y : Value f) → x ≡ f.laws.neg y → y ≡ f.laws.unit → (d ≡ 0 → ⊥) → x ≡ flip_sign f d
  flip_second zero x y e h n = absurd (n refl)
  flip_second (suc d) x y e h n = e ∙ ap f.laws.neg h
