-- Supercells of a group: whole multiples of the cell edges, one multiplier for each axis.
--
-- entry r i j: entry (i, j) of a matrix
-- IsLinked ops i j: a rotation has a nonzero entry (i, j) or (j, i)
-- AreJoined ops i j: axes i and j are joined by a chain of links
-- multiplier d i: the multiplier of axis i
-- IsSupercell ops d: multipliers from 1 to 12, equal on joined axes
-- IsCell d v: v is a translation of the supercell
-- IsSameElement d g h: g is h after a translation of the supercell
-- IsInside d v: coordinate i is from 0 up to but without multiplier i of cell edges
-- reduced d v: v less a translation of the supercell, inside it
use Rattle.std.specs.Prelude.{◌≡◌, ℕ, ◌<◌, ◌≤◌, ◌*◌, ℤ, pos, ◌*ℤ◌, ◌≤ℤ◌, ◌<ℤ◌, List, [], ◌∷◌, length, slice_index_or}
use Rattle.std.specs.Int.{int_rem_euclid}
use Rattle.space_ops.specs.declared.op.Op.{Op}
use Rattle.space_ops.specs.Matrix.{Matrix, Vector}
use Rattle.space_ops.specs.Seitz.{Seitz}
use Rattle.space_ops.specs.Op.{rows_of}
use Rattle.space_ops.specs.Words.{op_at, vector_difference}

-- entry (i, j), from 0
abbrev pub entry : Matrix ℤ → ℕ → ℕ → ℤ
entry r i j = slice_index_or (slice_index_or (rows_of r) i []) j (pos 0)

-- a rotation has a nonzero entry (i, j) or (j, i)
pub record IsLinked (ops : List Op) (i j : ℕ) : Type 0 where
  pub place : ℕ
  pub listed : place < length ops
  pub first : i < 3
  pub second : j < 3
  pub nonzero : ((entry (op_at ops place).rot i j ≡ pos 0) × (entry (op_at ops place).rot j i ≡ pos 0)) → ⊥

-- each axis of the chain is linked to the next
abbrev pub IsChain : List Op → ℕ → List ℕ → ℕ → Type 0
IsChain ops i [] j = i ≡ j
IsChain ops i (k ∷ chain) j = IsLinked ops i k × IsChain ops k chain j

-- joined by a chain of links
pub record AreJoined (ops : List Op) (i j : ℕ) : Type 0 where
  pub chain : List ℕ
  pub is : IsChain ops i chain j

-- the multiplier of axis i
abbrev pub multiplier : List ℕ → ℕ → ℕ
multiplier d i = slice_index_or d i 1

pub record IsSupercell (ops : List Op) (d : List ℕ) : Type 0 where
  pub positive : (i : ℕ) → i < 3 → 0 < multiplier d i
  pub few : (i : ℕ) → i < 3 → multiplier d i ≤ 12
  pub joined : (i j : ℕ) → i < 3 → j < 3 → AreJoined ops i j → multiplier d i ≡ multiplier d j

-- the length of the supercell along axis i, in twelfths of a cell edge
abbrev pub edge : List ℕ → ℕ → ℤ
edge d i = pos (12 * multiplier d i)

-- a translation of the supercell: so many of its edges
pub record IsCell (d : List ℕ) (v : Vector ℤ) : Type 0 where
  pub edges : Vector ℤ
  pub x : v.x ≡ edge d 0 *ℤ edges.x
  pub y : v.y ≡ edge d 1 *ℤ edges.y
  pub z : v.z ≡ edge d 2 *ℤ edges.z

-- g is h after a translation of the supercell
pub record IsSameElement (d : List ℕ) (g h : Seitz ℤ) : Type 0 where
  pub rotation : g.rot ≡ h.rot
  pub translation : IsCell d (vector_difference g.shift h.shift)

-- from 0 up to but without the length of the axis
abbrev pub IsBelowEdge : List ℕ → ℕ → ℤ → Type 0
IsBelowEdge d i x = (pos 0 ≤ℤ x) × (x <ℤ edge d i)

abbrev pub IsInside : List ℕ → Vector ℤ → Type 0
IsInside d v = IsBelowEdge d 0 v.x × IsBelowEdge d 1 v.y × IsBelowEdge d 2 v.z

-- each coordinate reduced into the supercell
abbrev pub reduced : List ℕ → Vector ℤ → Vector ℤ
reduced d v = record {
  x = int_rem_euclid v.x (edge d 0);
  y = int_rem_euclid v.y (edge d 1);
  z = int_rem_euclid v.z (edge d 2);
}
