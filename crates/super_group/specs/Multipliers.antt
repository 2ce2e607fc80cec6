-- The multipliers of a group for the denominators of wave vectors.
--
-- AreDenominators dens: each number divides 12
-- denominator dens n j: coordinate j of triple n
-- IsCommonMultiple ops dens i m: the denominators of all coordinates joined with axis i divide m
-- AreMultipliers ops dens d: each multiplier is the least common multiple
use Rattle.std.specs.Prelude.{◌≡◌, ℕ, ◌<◌, ◌≤◌, ◌%◌, List, [], length, slice_index_or}
use Rattle.space_ops.specs.declared.op.Op.{Op}
use Rattle.super_group.specs.Supercell.{AreJoined, multiplier}

-- coordinate j of triple n
abbrev pub denominator : List (List ℕ) → ℕ → ℕ → ℕ
denominator dens n j = slice_index_or (slice_index_or dens n []) j 1

-- each number divides 12
pub record AreDenominators (dens : List (List ℕ)) : Type 0 where
  pub positive : (n j : ℕ) → n < length dens → j < 3 → 0 < denominator dens n j
  pub divide : (n j : ℕ) → n < length dens → j < 3 → 12 % denominator dens n j ≡ 0

-- the denominators of all coordinates joined with axis i divide m
abbrev pub IsCommonMultiple : List Op → List (List ℕ) → ℕ → ℕ → Type 0
IsCommonMultiple ops dens i m = (n j : ℕ) → n < length dens → j < 3 → AreJoined ops i j → m % denominator dens n j ≡ 0

-- each multiplier is the least common multiple of these denominators
pub record AreMultipliers (ops : List Op) (dens : List (List ℕ)) (d : List ℕ) : Type 0 where
  pub axes : length d ≡ 3
  pub positive : (i : ℕ) → i < 3 → 0 < multiplier d i
  pub common : (i : ℕ) → i < 3 → IsCommonMultiple ops dens i (multiplier d i)
  pub least : (i m : ℕ) → i < 3 → 0 < m → IsCommonMultiple ops dens i m → multiplier d i ≤ m
