-- Fractions of wave vectors, and their rows in twelfths.
--
-- IsTwelfths f: the denominator divides 12, and the numerator is at most 24 in absolute value
-- twelfths_of f: 12 times the fraction
-- part_of k i: part i of a wave vector
-- IsWaveVector k: each part is in twelfths
-- row_of k: the wave vector as a row of twelfths
-- IsLowestRow row k: the parts of k are the twelfths of the row, in lowest terms
use Rattle.std.specs.Prelude.{◌≡◌, ℕ, ◌<◌, ◌/◌, ◌%◌, ℤ, pos, ◌*ℤ◌, slice_index_or}
use Rattle.iso_text.specs.declared.numbers.Frac.{Frac}
use Rattle.iso_text.specs.Fractions.{IsLowest}
use Rattle.kstar.specs.declared.wave_vector.KVector.{KVector}
use Rattle.space_ops.specs.Op.{IsWithin}
use Rattle.space_ops.specs.Matrix.{Vector}

-- the denominator divides 12, and the numerator is at most 24 in absolute value
pub record IsTwelfths (f : Frac) : Type 0 where
  pub positive : 0 < f.den
  pub divides : 12 % f.den ≡ 0
  pub near : IsWithin 24 f.num

-- 12 times the fraction
abbrev pub twelfths_of : Frac → ℤ
twelfths_of f = f.num *ℤ pos (12 / f.den)

-- part i of a wave vector
abbrev pub part_of : KVector → ℕ → Frac
part_of k i = slice_index_or k.parts i (record { num = pos 0; den = 1 })

-- each part is in twelfths
pub record IsWaveVector (k : KVector) : Type 0 where
  pub first : IsTwelfths (part_of k 0)
  pub second : IsTwelfths (part_of k 1)
  pub third : IsTwelfths (part_of k 2)

-- the wave vector as a row of twelfths
abbrev pub row_of : KVector → Vector ℤ
row_of k = record { x = twelfths_of (part_of k 0); y = twelfths_of (part_of k 1); z = twelfths_of (part_of k 2) }

-- the parts of k are the twelfths of the row, in lowest terms
pub record IsLowestRow (row : Vector ℤ) (k : KVector) : Type 0 where
  pub first : IsLowest row.x 12 (part_of k 0)
  pub second : IsLowest row.y 12 (part_of k 1)
  pub third : IsLowest row.z 12 (part_of k 2)
