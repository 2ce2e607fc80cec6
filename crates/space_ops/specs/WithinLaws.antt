-- Bounds on the absolute values of whole numbers.
--
-- abs_of_within, within_of_abs: a number is within a bound where its absolute value is at most the bound
-- within_product: a product is within the product of the bounds
-- within_more, shift_more: a larger bound, of a number and of a translation
-- within_sum, within_minus: sums and negatives
-- row_times-within: a row times a column
use Rattle.std.proofs.Common.{◌≡◌, ℕ, ◌+◌, ◌*◌, ◌≤◌, ℤ, pos, negsuc, neg_ℤ, ◌+ℤ◌, ◌*ℤ◌, unsigned_abs, List, arith}
use Rattle.std.proofs.lemmas.Int.{ints, unsigned_abs-mul}
use Rattle.std.proofs.Math.Nat.{mul-le-mul_left, mul-le-mul_right}
use Rattle.algebra.specs.Whole.{whole}
use Rattle.space_ops.specs.Matrix.{row_times}
use Rattle.space_ops.specs.Op.{number_at, IsWithin, IsShiftWithin}

pub abs_of_within : (n : ℕ) (x : ℤ) → IsWithin n x → unsigned_abs x ≤ n
abs_of_within n (pos k) h = omega (arith, ints)
abs_of_within n (negsuc k) h = omega (arith, ints)

pub within_of_abs : (n : ℕ) (x : ℤ) → unsigned_abs x ≤ n → IsWithin n x
within_of_abs n (pos k) h = (omega (arith, ints), omega (arith, ints))
within_of_abs n (negsuc k) h = (omega (arith, ints), omega (arith, ints))

-- a product is within the product of the bounds
pub within_product : (m n : ℕ) (a x : ℤ) → IsWithin m a → IsWithin n x → IsWithin (m * n) (a *ℤ x)
within_product m n a x h k =
    let p : unsigned_abs a ≤ m = abs_of_within m a h in
    let q : unsigned_abs x ≤ n = abs_of_within n x k in
    let e : unsigned_abs (a *ℤ x) ≡ unsigned_abs a * unsigned_abs x = unsigned_abs-mul a x in
    let f : unsigned_abs a * unsigned_abs x ≤ m * unsigned_abs x = mul-le-mul_right (unsigned_abs x) p in
    let g : m * unsigned_abs x ≤ m * n = mul-le-mul_left m q in
    within_of_abs (m * n) (a *ℤ x) (omega arith)

pub within_more : (m n : ℕ) (x : ℤ) → m ≤ n → IsWithin m x → IsWithin n x
within_more m n x l h = (omega (arith, ints, h.0), omega (arith, ints, h.1))

pub shift_more : (m n : ℕ) (t : List ℤ) → m ≤ n → IsShiftWithin m t → IsShiftWithin n t
shift_more m n t l h = (within_more m n (number_at t 0) l h.0, within_more m n (number_at t 1) l h.1, within_more m n (number_at t 2) l h.2)

pub within_sum : (m n : ℕ) (a b : ℤ) → IsWithin m a → IsWithin n b → IsWithin (m + n) (a +ℤ b)
within_sum m n a b h k = (omega (arith, ints, h.0, k.0), omega (arith, ints, h.1, k.1))

pub within_minus : (n : ℕ) (x : ℤ) → IsWithin n x → IsWithin n (neg_ℤ x)
within_minus n x h = (omega (arith, ints, h.1), omega (arith, ints, h.0))

sum_of_three : (n : ℕ) (a b c : ℤ) → IsWithin n a → IsWithin n b → IsWithin n c → IsWithin (3 * n) ((a +ℤ b) +ℤ c)
sum_of_three n a b c h i j = (omega (arith, ints, h.0, i.0, j.0), omega (arith, ints, h.1, i.1, j.1))

-- three products of entries within m and coordinates within n
pub row_times-within : (m n : ℕ) (a b c x y z : ℤ) → IsWithin m a → IsWithin m b → IsWithin m c → IsWithin n x → IsWithin n y → IsWithin n z
    → IsWithin (3 * (m * n)) (row_times whole a b c x y z)
row_times-within m n a b c x y z h i j k l o =
    sum_of_three (m * n) (a *ℤ x) (b *ℤ y) (c *ℤ z) (within_product m n a x h k) (within_product m n b y i l) (within_product m n c z j o)
