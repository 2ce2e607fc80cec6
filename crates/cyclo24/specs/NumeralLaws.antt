-- What whole numbers in a field obey.
--
-- ring_of_is f: the ring of a field is a commutative ring, so `solve (ring_of f) (ring_of_is f)` proves its equations
-- of-plus, of-times: sums and products of whole numbers
use Rattle.std.proofs.Common.{◌≡◌, ℕ, suc, zero, ◌+◌, ◌*◌, refl, sym, ◌∙◌, ap, arith, ℤ, pos, negsuc, neg_ℤ, ◌+ℤ◌, ◌*ℤ◌, [], ◌∷◌}
use Rattle.std.proofs.lemmas.Int.{ints}
use Rattle.algebra.specs.Ring.{IsRing}
use Rattle.algebra.specs.Solve.{V, K, Add, Mul, Neg, at}
use Rattle.algebra.specs.SolveLaws.{solve, num_add, num_mul}
use Rattle.cyclo24.specs.FieldOn.{FieldOn, ones}
use Rattle.cyclo24.specs.Numerals.{of_whole, ring_of}
use Rattle.cyclo24.specs.FieldLaws.{nought-plus, unit-times}

up : ℤ → ℕ
up (pos n) = n
up (negsuc n) = 0

down : ℤ → ℕ
down (pos n) = 0
down (negsuc n) = suc n

module _ {A : Type 0} (f : FieldOn A) where
  pub ring_of_is : IsRing (ring_of f)
  ring_of_is = record {
    add_assoc = f.plus_assoc;
    add_comm = f.plus_comm;
    add_zero = nought-plus f;
    add_neg = f.plus-neg;
    mul_assoc = f.times_assoc;
    mul_comm = f.times_comm;
    mul_add = f.times-plus;
    mul_one = λ x. ap (λ w. f.times w x) (f.plus-nought f.unit) ∙ unit-times f x;
    num_suc = λ n. ap (λ w. f.plus w (ones f n)) (sym (f.plus-nought f.unit));
  }

  -- x - y
  abbrev minus : A → A → A
  minus x y = f.plus x (f.neg y)

  -- of a difference
  of-difference : (a b : ℕ) → of_whole f (pos a +ℤ neg_ℤ (pos b)) ≡ minus (ones f a) (ones f b)
  of-difference a zero = let e : pos a +ℤ neg_ℤ (pos 0) ≡ pos a = omega (arith, ints) in
      ap (of_whole f) e ∙ solve (ring_of f) ring_of_is (at f.nought (ones f a ∷ [])) (V 0) (Add (V 0) (Neg (K 0))) refl
  of-difference zero (suc b) = let e : pos 0 +ℤ neg_ℤ (pos (suc b)) ≡ negsuc b = omega (arith, ints) in
      ap (of_whole f) e ∙ sym (nought-plus f (f.neg (ones f (suc b))))
  of-difference (suc a) (suc b) = let e : pos (suc a) +ℤ neg_ℤ (pos (suc b)) ≡ pos a +ℤ neg_ℤ (pos b) = omega (arith, ints) in
      ap (of_whole f) e ∙ of-difference a b
      ∙ solve (ring_of f) ring_of_is (at f.nought (f.unit ∷ ones f a ∷ ones f b ∷ [])) (Add (V 1) (Neg (V 2))) (Add (Add (V 0) (V 1)) (Neg (Add (V 0) (V 2)))) refl

  of-parts : (z : ℤ) (a b : ℕ) → z ≡ pos a +ℤ neg_ℤ (pos b) → of_whole f z ≡ minus (ones f a) (ones f b)
  of-parts z a b e = ap (of_whole f) e ∙ of-difference a b

  split : (z : ℤ) → z ≡ pos (up z) +ℤ neg_ℤ (pos (down z))
  unfolding up down
  split (pos n) = omega (arith, ints)
  split (negsuc n) = omega (arith, ints)

  sum-split : (x y : ℤ) → x +ℤ y ≡ pos (up x + up y) +ℤ neg_ℤ (pos (down x + down y))
  sum-split x y = (λ i. split x i +ℤ split y i) ∙ omega (arith, ints)

  product-split : (x y : ℤ) → x *ℤ y ≡ pos (up x * up y + down x * down y) +ℤ neg_ℤ (pos (up x * down y + down x * up y))
  unfolding up down
  product-split (pos a) (pos b) = omega (arith, ints)
  product-split (pos a) (negsuc b) = omega (arith, ints)
  product-split (negsuc a) (pos b) = omega (arith, ints)
  product-split (negsuc a) (negsuc b) = omega (arith, ints)

  pub of-plus : (x y : ℤ) → of_whole f (x +ℤ y) ≡ f.plus (of_whole f x) (of_whole f y)
  of-plus x y =
      of-parts (x +ℤ y) (up x + up y) (down x + down y) (sum-split x y)
      ∙ (λ i. minus (num_add (ring_of f) ring_of_is (up x) (up y) i) (num_add (ring_of f) ring_of_is (down x) (down y) i))
      ∙ solve (ring_of f) ring_of_is (at f.nought (ones f (up x) ∷ ones f (up y) ∷ ones f (down x) ∷ ones f (down y) ∷ []))
      (Add (Add (V 0) (V 1)) (Neg (Add (V 2) (V 3)))) (Add (Add (V 0) (Neg (V 2))) (Add (V 1) (Neg (V 3)))) refl
      ∙ sym (λ i. f.plus (of-parts x (up x) (down x) (split x) i) (of-parts y (up y) (down y) (split y) i))

  pub of-times : (x y : ℤ) → of_whole f (x *ℤ y) ≡ f.times (of_whole f x) (of_whole f y)
  of-times x y =
      let r = ring_of f in let n = ring_of_is in
      let a = up x in let b = down x in let c = up y in let d = down y in
      of-parts (x *ℤ y) (a * c + b * d) (a * d + b * c) (product-split x y)
      ∙ (λ i. minus (num_add r n (a * c) (b * d) i) (num_add r n (a * d) (b * c) i))
      ∙ (λ i. minus (f.plus (num_mul r n a c i) (num_mul r n b d i)) (f.plus (num_mul r n a d i) (num_mul r n b c i)))
      ∙ solve r n (at f.nought (ones f a ∷ ones f b ∷ ones f c ∷ ones f d ∷ []))
      (Add (Add (Mul (V 0) (V 2)) (Mul (V 1) (V 3))) (Neg (Add (Mul (V 0) (V 3)) (Mul (V 1) (V 2))))) (Mul (Add (V 0) (Neg (V 1))) (Add (V 2) (Neg (V 3)))) refl
      ∙ sym (λ i. f.times (of-parts x a b (split x) i) (of-parts y c d (split y) i))
