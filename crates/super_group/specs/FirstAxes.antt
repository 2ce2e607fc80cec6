-- The axes that a group joins, by the first axis of each set of joined axes.
--
-- AreZero r i j: entries (i, j) and (j, i) of a matrix are 0
-- axis_at firsts i: number i of a list of axes
-- least_joined_y xy yz xz, least_joined_z xy yz xz: the first axis joined with y, with z, where x and y, y and z, x and z are linked or not
-- AreFirstAxes ops firsts: for each axis one that it is joined with, the same for joined axes
-- IsMultipleOf firsts first dens m: the denominators of all coordinates with this first axis divide m
-- IsLeastMultipleOf firsts first dens m: m is the least from 1 on of which this holds
use Rattle.std.specs.Prelude.{◌≡◌, ℕ, ◌<◌, ◌≤◌, ◌%◌, Bool, ◌&&◌, ◌||◌, if◌then◌else◌, ℤ, pos, List, length, slice_index_or}
use Rattle.space_ops.specs.declared.op.Op.{Op}
use Rattle.space_ops.specs.Matrix.{Matrix}
use Rattle.super_group.specs.Supercell.{entry, AreJoined}
use Rattle.super_group.specs.Multipliers.{denominator}

abbrev pub AreZero : Matrix ℤ → ℕ → ℕ → Type 0
AreZero r i j = (entry r i j ≡ pos 0) × (entry r j i ≡ pos 0)

abbrev pub axis_at : List ℕ → ℕ → ℕ
axis_at firsts i = slice_index_or firsts i 0

abbrev pub least_joined_y : Bool → Bool → Bool → ℕ
least_joined_y xy yz xz = if xy || (yz && xz) then 0 else 1

abbrev pub least_joined_z : Bool → Bool → Bool → ℕ
least_joined_z xy yz xz = if xz || (xy && yz) then 0 else (if yz then 1 else 2)

-- for each axis one that it is joined with, the same for joined axes
pub record AreFirstAxes (ops : List Op) (firsts : List ℕ) : Type 0 where
  pub joined : (i : ℕ) → i < 3 → AreJoined ops i (axis_at firsts i)
  pub same : (i j : ℕ) → i < 3 → j < 3 → AreJoined ops i j → axis_at firsts i ≡ axis_at firsts j

abbrev pub IsMultipleOf : List ℕ → ℕ → List (List ℕ) → ℕ → Type 0
IsMultipleOf firsts first dens m = (n j : ℕ) → n < length dens → j < 3 → axis_at firsts j ≡ first → m % denominator dens n j ≡ 0

pub record IsLeastMultipleOf (firsts : List ℕ) (first : ℕ) (dens : List (List ℕ)) (m : ℕ) : Type 0 where
  pub positive : 0 < m
  pub few : m ≤ 12
  pub multiple : IsMultipleOf firsts first dens m
  pub least : (k : ℕ) → 0 < k → IsMultipleOf firsts first dens k → m ≤ k
