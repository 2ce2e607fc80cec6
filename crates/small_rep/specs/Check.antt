-- Why matrices of a little group are no small representation: the first condition that fails.
--
-- left_of, right_of little e: the rotations of ordered pair e, row by row
-- MultipliesAt p s n g e: the law of pair e
-- IsFirstFailing p s n g a b: the listed operations of the first pair that doesn't multiply
-- HasOtherSum little n g sum count: the character sum and the number of rotations, which differ
-- IsWideLaw, IsWideNorm, IsWideCharacter, IsWideSum, IsWideCheck: a written number of the check is wide
-- IsCheckCause p s n g e: why the check refuses
use Rattle.std.specs.Prelude.{◌≡◌, ℕ, ◌<◌, ◌*◌, ◌/◌, ◌%◌, ◌⊎◌, List, IsTrue, length, slice_index, slice_index_or}
use Rattle.cyclo24.specs.declared.k24.K24.{K24}
use Rattle.cyclo24.specs.ExactZ24.{ExactZ24, z24, power, conj, is_wide_conj, is_wide_product_z24, is_wide_sum_z24, is_wide_real_part}
use Rattle.cyclo24.specs.K24.{exact24}
use Rattle.lin_alg.specs.Matrix.{IsWideMul, IsWideMultiple, IsWideTrace}
use Rattle.space_ops.specs.declared.op.Op.{Op}
use Rattle.space_ops.specs.Op.{identity_op}
use Rattle.space_ops.specs.Group.{Parent}
use Rattle.space_ops.specs.GroupLaws.{rotation_group}
use Rattle.kstar.specs.WaveVector.{phase_of}
use Rattle.kstar.specs.Star.{WaveStar}
use Rattle.small_rep.specs.SmallRep.{Matrices, factor_of, MultipliesWithPhase, IsUnit, character_of, norm_of, norms_of, character_sum, rotation_count}
use Rattle.small_rep.specs.declared.errors.RepError.{RepError}
use Rattle.small_rep.specs.declared.errors.RepError.TheVariants.{NotLittle, RotationTwice, RotationMissing, NotUnit, NotMultiplying, NotIrreducible, Wide, NoMemory}

-- the rotations of ordered pair e, row by row
abbrev pub left_of : List ℕ → ℕ → ℕ
left_of little e = slice_index little (e / length little)

abbrev pub right_of : List ℕ → ℕ → ℕ
right_of little e = slice_index little (e % length little)

-- the law of ordered pair e
abbrev pub MultipliesAt : Parent → WaveStar → ℕ → Matrices → ℕ → Type 0
MultipliesAt p s n g e = MultipliesWithPhase p s n g (left_of s.little e) (right_of s.little e)

-- each pair multiplies
abbrev pub AllMultiply : Parent → WaveStar → ℕ → Matrices → Type 0
AllMultiply p s n g = (e : ℕ) → e < length s.little * length s.little → MultipliesAt p s n g e

-- the listed operations of the first pair that doesn't multiply
pub record IsFirstFailing (p : Parent) (s : WaveStar) (n : ℕ) (g : Matrices) (a b : Op) : Type 0 where
  pub place : ℕ
  pub listed : place < length s.little * length s.little
  pub before : (e : ℕ) → e < place → MultipliesAt p s n g e
  pub fails : MultipliesAt p s n g place → ⊥
  pub left : a ≡ slice_index_or p.ops (left_of s.little place) identity_op
  pub right : b ≡ slice_index_or p.ops (right_of s.little place) identity_op

-- the sum and the number of rotations, which differ
pub record HasOtherSum (little : List ℕ) (n : ℕ) (g : Matrices) (sum : K24) (count : ℕ) : Type 0 where
  pub sum_is : exact24 sum ≡ character_sum little n g
  pub number : count ≡ length little
  pub differ : character_sum little n g ≡ rotation_count little → ⊥

-- G(a) G(b), row times column, or z^q on an entry of G(c) is wide
abbrev pub IsWideLaw : ℕ → Matrices → ℕ → ℕ → ℕ → ℕ → Type 0
IsWideLaw n g a b c q = IsWideMul z24 n n n (g a) (g b) ⊎ IsWideMultiple z24 n (power q) (g c)

-- the same of ordered pair e
abbrev pub IsWidePair : Parent → WaveStar → ℕ → Matrices → ℕ → Type 0
IsWidePair p s n g e =
    let a = left_of s.little e in
    let b = right_of s.little e in
    IsWideLaw n g a b ((rotation_group p.ops).product a b) (phase_of s.row (factor_of p a b))

-- the conjugate or the product is wide
abbrev pub IsWideNorm : ExactZ24 → Type 0
IsWideNorm x = IsTrue (is_wide_conj x) ⊎ IsTrue (is_wide_product_z24 x (conj x))

-- the character of rotation k of the list, its norm, or adding it is wide
abbrev pub IsWideCharacter : List ℕ → ℕ → Matrices → ℕ → Type 0
IsWideCharacter little n g k =
    let x = character_of n g (slice_index little k) in
    IsWideTrace z24 n (g (slice_index little k)) ⊎ (IsWideNorm x ⊎ IsTrue (is_wide_sum_z24 (norms_of little n g k) (norm_of x)))

-- a character, or the real part of their sum is wide
abbrev pub IsWideSum : List ℕ → ℕ → Matrices → Type 0
IsWideSum little n g = ((k : ℕ) × (k < length little) × IsWideCharacter little n g k) ⊎ IsTrue (is_wide_real_part (norms_of little n g (length little)))

-- a number of the law of a pair, or of the character sum
abbrev pub IsWideCheck : Parent → WaveStar → ℕ → Matrices → Type 0
IsWideCheck p s n g = ((e : ℕ) × (e < length s.little * length s.little) × IsWidePair p s n g e) ⊎ IsWideSum s.little n g

-- why the check refuses: the first condition that fails. It takes no memory
abbrev pub IsCheckCause : Parent → WaveStar → ℕ → Matrices → RepError → Type 0
IsCheckCause p s n g (NotLittle line) = ⊥
IsCheckCause p s n g (RotationTwice line) = ⊥
IsCheckCause p s n g (RotationMissing op) = ⊥
IsCheckCause p s n g NotUnit = IsUnit n g → ⊥
IsCheckCause p s n g (NotMultiplying a b) = IsUnit n g × IsFirstFailing p s n g a b
IsCheckCause p s n g (NotIrreducible sum count) = IsUnit n g × AllMultiply p s n g × HasOtherSum s.little n g sum count
IsCheckCause p s n g (Wide family) = (family ≡ 0) × IsWideCheck p s n g
IsCheckCause p s n g NoMemory = ⊥
