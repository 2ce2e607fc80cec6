-- What contracts see of a star's fields.
use Rattle.std.specs.Prelude.{◌≡◌, ◌≤◌, length}
use Rattle.space_ops.specs.Op.{vector_of, IsShiftWithin}
use Rattle.kstar.specs.declared.star.Star.TheInside.{Inside}
use Rattle.kstar.specs.WaveVector.{HasPhases}
use Rattle.kstar.specs.Star.{WaveStar}
use Rattle.kstar.specs.Rows.{AreNear}

abbrev pub view_of : Inside → WaveStar
view_of s = record { lattice = s.lattice; row = vector_of s.row; little = s.little.items; by = s.by.items; arms = s.arms.items }

pub record IsStar (s : Inside) : Type 0 where
  pub near : IsShiftWithin 288 s.row
  pub arms_near : AreNear s.arms.items
  pub count : length s.arms.items ≡ length s.by.items
  pub few_arms : length s.by.items ≤ 48
  pub few_little : length s.little.items ≤ 48
  pub phases : HasPhases s.lattice (vector_of s.row)
