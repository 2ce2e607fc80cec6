-- The conditions of a small representation, by its table of pairs.
--
-- PairMultiplies v e, AllPairsMultiply v: the law of an ordered pair, of each
-- IsAccepted v: the three conditions
-- HasFailing v a b: the operations of the first pair that doesn't multiply
-- IsWideTablePair v e: a number of the law of a pair is wide
-- IsRefused v e: the first condition that fails
-- CheckedView: what contracts see of an accepted representation
-- IsChecked c: the sum is that of an accepted representation
use Rattle.std.specs.Prelude.{◌≡◌, ℕ, ◌<◌, ◌/◌, ◌%◌, ◌⊎◌, length, slice_index_or}
use Rattle.cyclo24.specs.declared.k24.K24.{K24}
use Rattle.cyclo24.specs.K24.{exact24}
use Rattle.space_ops.specs.declared.op.Op.{Op}
use Rattle.space_ops.specs.Op.{identity_op}
use Rattle.small_rep.specs.SmallRep.{MultiplyTo, IsUnit, character_sum, rotation_count}
use Rattle.small_rep.specs.Check.{left_of, right_of, HasOtherSum, IsWideLaw, IsWideSum}
use Rattle.small_rep.specs.Rep.{RepView, matrices_of, pair_at}
use Rattle.small_rep.specs.declared.errors.RepError.{RepError}
use Rattle.small_rep.specs.declared.errors.RepError.TheVariants.{NotLittle, RotationTwice, RotationMissing, NotUnit, NotMultiplying, NotIrreducible, Wide, NoMemory}

-- the law of ordered pair e
abbrev pub PairMultiplies : RepView → ℕ → Type 0
PairMultiplies v e = MultiplyTo v.size (matrices_of v) (left_of v.little e) (right_of v.little e) (pair_at v e).product (pair_at v e).power

-- of each pair
abbrev pub AllPairsMultiply : RepView → Type 0
AllPairsMultiply v = (e : ℕ) → e < length v.pairs → PairMultiplies v e

-- the unit matrix, the law of pairs, the sum
pub record IsAccepted (v : RepView) : Type 0 where
  pub identity : IsUnit v.size (matrices_of v)
  pub multiplies : AllPairsMultiply v
  pub irreducible : character_sum v.little v.size (matrices_of v) ≡ rotation_count v.little

-- the operations of the first pair that doesn't multiply
pub record HasFailing (v : RepView) (a b : Op) : Type 0 where
  pub place : ℕ
  pub listed : place < length v.pairs
  pub before : (e : ℕ) → e < place → PairMultiplies v e
  pub fails : PairMultiplies v place → ⊥
  pub left : a ≡ slice_index_or v.ops (place / length v.little) identity_op
  pub right : b ≡ slice_index_or v.ops (place % length v.little) identity_op

-- a number of the law of pair e is wide
abbrev pub IsWideTablePair : RepView → ℕ → Type 0
IsWideTablePair v e = IsWideLaw v.size (matrices_of v) (left_of v.little e) (right_of v.little e) (pair_at v e).product (pair_at v e).power

-- the first condition that fails
abbrev pub IsRefused : RepView → RepError → Type 0
IsRefused v (NotLittle line) = ⊥
IsRefused v (RotationTwice line) = ⊥
IsRefused v (RotationMissing op) = ⊥
IsRefused v NotUnit = IsUnit v.size (matrices_of v) → ⊥
IsRefused v (NotMultiplying a b) = IsUnit v.size (matrices_of v) × HasFailing v a b
IsRefused v (NotIrreducible sum count) = IsUnit v.size (matrices_of v) × AllPairsMultiply v × HasOtherSum v.little v.size (matrices_of v) sum count
IsRefused v (Wide family) = (family ≡ 0) × (((e : ℕ) × (e < length v.pairs) × IsWideTablePair v e) ⊎ IsWideSum v.little v.size (matrices_of v))
IsRefused v NoMemory = ⊥

-- an accepted representation with its character sum
pub record CheckedView : Type 0 where
  pub rep : RepView
  pub sum : K24

pub record IsChecked (c : CheckedView) : Type 0 where
  pub sum_is : exact24 c.sum ≡ character_sum c.rep.little c.rep.size (matrices_of c.rep)
  pub accepted : IsAccepted c.rep
