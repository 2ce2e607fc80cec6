-- The ring laws of the whole numbers.
--
-- add_zeroℤ: 0 + a = a
-- whole_ring: they are a commutative ring
use Rattle.std.proofs.Common.{◌≡◌, ℕ, ◌*◌, suc, arith, ap}
use Rattle.std.proofs.Math.IntN.{ℤ, pos, ◌+ℤ◌, ◌*ℤ◌, neg_ℤ}
use Rattle.std.proofs.lemmas.Int.{ints}
use Rattle.algebra.specs.Ring.{IsRing}
use Rattle.algebra.specs.Whole.{whole}
use borrow.Author.Differences.{up, down, product_is, sum_is_lem}

add_assocℤ : (a b c : ℤ) → (a +ℤ b) +ℤ c ≡ a +ℤ (b +ℤ c)
add_assocℤ a b c = omega (arith, ints)

add_commℤ : (a b : ℤ) → a +ℤ b ≡ b +ℤ a
add_commℤ a b = omega (arith, ints)

pub add_zeroℤ : (a : ℤ) → pos 0 +ℤ a ≡ a
add_zeroℤ a = omega (arith, ints)

add_negℤ : (a : ℤ) → a +ℤ neg_ℤ a ≡ pos 0
add_negℤ a = omega (arith, ints)

mul_oneℤ : (a : ℤ) → pos 1 *ℤ a ≡ a
mul_oneℤ a = omega (arith, ints)

mul_commℤ : (a b : ℤ) → a *ℤ b ≡ b *ℤ a
mul_commℤ a b = omega (arith, ints)

mul_assocℤ : (a b c : ℤ) → (a *ℤ b) *ℤ c ≡ a *ℤ (b *ℤ c)
mul_assocℤ a b c =
    omega (
      arith,
      ints,
      ap (λ n. n * up c) (product_is a b).0,
      ap (λ n. n * down c) (product_is a b).0,
      ap (λ n. n * up c) (product_is a b).1,
      ap (λ n. n * down c) (product_is a b).1,
      ap (λ n. up a * n) (product_is b c).0,
      ap (λ n. down a * n) (product_is b c).0,
      ap (λ n. up a * n) (product_is b c).1,
      ap (λ n. down a * n) (product_is b c).1,
    )

mul-addℤ : (a b c : ℤ) → a *ℤ (b +ℤ c) ≡ a *ℤ b +ℤ a *ℤ c
mul-addℤ a b c = omega (arith, ints, ap (λ n. up a * n) (sum_is_lem b c), ap (λ n. down a * n) (sum_is_lem b c))

num-sucℤ : (n : ℕ) → pos (suc n) ≡ pos 1 +ℤ pos n
num-sucℤ n = omega (arith, ints)

pub whole_ring : IsRing whole
whole_ring = record {
  add_assoc = add_assocℤ;
  add_comm = add_commℤ;
  add_zero = add_zeroℤ;
  add_neg = add_negℤ;
  mul_assoc = mul_assocℤ;
  mul_comm = mul_commℤ;
  mul_one = mul_oneℤ;
  mul_add = mul-addℤ;
  num_suc = num-sucℤ;
}
