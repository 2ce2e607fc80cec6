-- Wave vectors that are whole on a supercell.
--
-- IsWholeOn d k: d_i times coordinate i of k is whole, for each axis; k in twelfths
-- AreWholeOn d s: the same of each arm of a star
-- HasDenominators dens n k: triple n of the list has the denominators of a wave vector
use Rattle.std.specs.Prelude.{◌≡◌, ℕ, ◌<◌, ℤ, pos, ◌*ℤ◌, List, length}
use Rattle.algebra.specs.Multiples.{IsMultiple}
use Rattle.space_ops.specs.Matrix.{Vector}
use Rattle.kstar.specs.declared.wave_vector.KVector.{KVector}
use Rattle.kstar.specs.Fraction.{part_of}
use Rattle.kstar.specs.Star.{WaveStar, row_in}
use Rattle.super_group.specs.Multipliers.{denominator}
use Rattle.super_group.specs.Supercell.{multiplier}

-- d_i times coordinate i of k is whole, where the row is 12 k
pub record IsWholeOn (d : List ℕ) (k : Vector ℤ) : Type 0 where
  pub x : IsMultiple 12 (pos (multiplier d 0) *ℤ k.x)
  pub y : IsMultiple 12 (pos (multiplier d 1) *ℤ k.y)
  pub z : IsMultiple 12 (pos (multiplier d 2) *ℤ k.z)

-- each arm is so
abbrev pub AreWholeOn : List ℕ → WaveStar → Type 0
AreWholeOn d s = (i : ℕ) → i < length s.by → IsWholeOn d (row_in s.arms i)

-- triple n of the list has the denominators of a wave vector
pub record HasDenominators (dens : List (List ℕ)) (n : ℕ) (k : KVector) : Type 0 where
  pub listed : n < length dens
  pub first : denominator dens n 0 ≡ (part_of k 0).den
  pub second : denominator dens n 1 ≡ (part_of k 1).den
  pub third : denominator dens n 2 ≡ (part_of k 2).den
