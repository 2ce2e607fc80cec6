-- The group of all sign changes of n coordinates: element q flips the coordinates at which the binary number q has a 1.
--
-- flip_group n: the group, with the sum of digits modulo 2 for product
-- flip_sign f digit, flip_entry f q i j: the matrix of an element
-- flips f n: the action
use Rattle.std.specs.Prelude.{ℕ, zero, suc, ◌^◌, nat_eq, if◌then◌else◌}
use Rattle.std.specs.Int.Bits.{bit_xor}
use Rattle.std.specs.Int.{bit_at}
use Rattle.algebra.specs.NumberedGroup.{Group}
use Rattle.cyclo24.specs.ExactField.{ExactField, Value}
use Rattle.lin_alg.specs.Action.{Action}

abbrev pub flip_group : ℕ → Group
flip_group n = record { order = 2 ^ n; product = bit_xor; inverse = λ a. a }

-- 1 for the digit 0, else -1
abbrev pub flip_sign : (f : ExactField) → ℕ → Value f
flip_sign f zero = f.laws.unit
flip_sign f (suc d) = f.laws.neg f.laws.unit

-- entry (i, j) of the matrix of q
abbrev pub flip_entry : (f : ExactField) → ℕ → ℕ → ℕ → Value f
flip_entry f q i j = if nat_eq i j then flip_sign f (bit_at q i) else f.laws.nought

-- n coordinates; generator i flips the coordinate i
abbrev pub flips : (f : ExactField) → ℕ → Action
flips f n = record {
  group = flip_group n;
  generators = n;
  generator = λ i. 2 ^ i;
  dim = n;
  entry = λ q i j. (flip_entry f q i j).0;
}
