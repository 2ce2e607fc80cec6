-- Places of atoms modulo a supercell, and their images under the elements of its group.
--
-- A place is a column of whole numbers of units, 1/12,000,000 of a cell edge.
--
-- in_units t: a translation in twelfths of a cell edge, in units
-- moved g x: the place R x + t, for g = {R|t}
-- reduced_place d x: the place modulo the supercell
-- IsInSupercell d x: each coordinate is from 0 up to but without the length of the supercell
-- image_in s q x: the place to which element q takes a place, modulo the supercell
-- IsOnOrbit s x y: a member of the parent group takes x to y
-- place_at places i: place i of a list
use Rattle.std.specs.Prelude.{◌≡◌, ℕ, ◌*◌, ℤ, pos, ◌*ℤ◌, ◌≤ℤ◌, ◌<ℤ◌, List, [], slice_index_or}
use Rattle.std.specs.Int.{int_rem_euclid}
use Rattle.algebra.specs.Whole.{whole}
use Rattle.space_ops.specs.Matrix.{Vector, image_under, vector_sum}
use Rattle.space_ops.specs.Seitz.{Seitz}
use Rattle.space_ops.specs.Op.{vector_of}
use Rattle.super_group.specs.Supercell.{multiplier}
use Rattle.super_group.specs.Quotient.{SupercellGroup, IsMember, element_of}

-- a twelfth is 1,000,000 units
abbrev pub in_units : Vector ℤ → Vector ℤ
in_units t = record { x = pos 1000000 *ℤ t.x; y = pos 1000000 *ℤ t.y; z = pos 1000000 *ℤ t.z }

-- {R|t} takes x to R x + t
abbrev pub moved : Seitz ℤ → Vector ℤ → Vector ℤ
moved g x = vector_sum whole (image_under whole g.rot x) (in_units g.shift)

-- the length of the supercell along axis i, in units
abbrev pub length_along : List ℕ → ℕ → ℤ
length_along d i = pos (12000000 * multiplier d i)

-- each coordinate from 0 up to but without the length of its axis
abbrev pub reduced_place : List ℕ → Vector ℤ → Vector ℤ
reduced_place d x = record {
  x = int_rem_euclid x.x (length_along d 0);
  y = int_rem_euclid x.y (length_along d 1);
  z = int_rem_euclid x.z (length_along d 2);
}

-- from 0 up to but without the length of the axis
abbrev pub IsBelowLength : List ℕ → ℕ → ℤ → Type 0
IsBelowLength d i c = (pos 0 ≤ℤ c) × (c <ℤ length_along d i)

abbrev pub IsInSupercell : List ℕ → Vector ℤ → Type 0
IsInSupercell d x = IsBelowLength d 0 x.x × IsBelowLength d 1 x.y × IsBelowLength d 2 x.z

-- the image of a place under element q, modulo the supercell
unfoldable pub image_in : SupercellGroup → ℕ → Vector ℤ → Vector ℤ
image_in s q x = reduced_place s.d (moved (element_of s q) x)

-- y is the image of x under a member of the parent group
pub record IsOnOrbit (s : SupercellGroup) (x y : Vector ℤ) : Type 0 where
  pub operation : Seitz ℤ
  pub member : IsMember s operation
  pub is : moved operation x ≡ y

abbrev pub place_at : List (List ℤ) → ℕ → Vector ℤ
place_at places i = vector_of (slice_index_or places i [])
