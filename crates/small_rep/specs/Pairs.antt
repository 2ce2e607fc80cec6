-- The products of ordered pairs of rotations of the little group, as a table.
--
-- IsPair p s a b pair: the number of the product of rotations a and b, and the phase of their factor
-- no_pair: a pair of nothing
-- ArePairs p s little pairs: the pair of each two numbers of the list, row by row
-- AreListed little rotations: each number is in a list
-- IsFirstUnlisted ops little rotations op: the listed operation of the first number that isn't
use Rattle.std.specs.Prelude.{◌≡◌, ℕ, ◌<◌, ◌*◌, List, true, false, length, slice_index, slice_index_or}
use Rattle.space_ops.specs.declared.op.Op.{Op}
use Rattle.space_ops.specs.Op.{identity_op}
use Rattle.space_ops.specs.Group.{Parent}
use Rattle.space_ops.specs.GroupLaws.{rotation_group}
use Rattle.kstar.specs.WaveVector.{phase_of}
use Rattle.kstar.specs.Star.{WaveStar}
use Rattle.small_rep.specs.SmallRep.{factor_of, is_listed}
use Rattle.small_rep.specs.Check.{left_of, right_of}
use Rattle.small_rep.specs.declared.pairs.Pair.{Pair}

-- rotations a and b: the number of their product, and the phase of t_R + R t_S - t_RS
pub record IsPair (p : Parent) (s : WaveStar) (a b : ℕ) (pair : Pair) : Type 0 where
  pub product : pair.product ≡ (rotation_group p.ops).product a b
  pub power : pair.power ≡ phase_of s.row (factor_of p a b)

abbrev pub no_pair : Pair
no_pair = record { product = 0; power = 0 }

-- the pairs of the numbers of a list, row by row
pub record ArePairs (p : Parent) (s : WaveStar) (little : List ℕ) (pairs : List Pair) : Type 0 where
  pub count : length pairs ≡ length little * length little
  pub each : (e : ℕ) → e < length pairs → IsPair p s (left_of little e) (right_of little e) (slice_index_or pairs e no_pair)

-- each number is in a list
abbrev pub AreListed : List ℕ → List ℕ → Type 0
AreListed little rotations = (i : ℕ) → i < length little → is_listed rotations (slice_index little i) ≡ true

-- the listed operation of the first number that is not in a list
pub record IsFirstUnlisted (ops : List Op) (little rotations : List ℕ) (op : Op) : Type 0 where
  pub place : ℕ
  pub listed : place < length little
  pub before : (i : ℕ) → i < place → is_listed rotations (slice_index little i) ≡ true
  pub none : is_listed rotations (slice_index little place) ≡ false
  pub op_is : op ≡ slice_index_or ops (slice_index little place) identity_op
