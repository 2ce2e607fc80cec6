-- The lattice translations inside a supercell that come before a point, in order of coordinates.
--
-- IsBefore x y z v: v comes before (x, y, z)
-- AreTranslationsBefore lattice d x y z ts: the lattice translations inside the supercell before (x, y, z), rising
-- IsAt c x: c is x modulo 12
-- coordinate cs i j: coordinate j of vector i
-- HasLayer cs x, HasColumn cs x y, HasPoint cs x y z: a vector of the list has these coordinates modulo 12
use Rattle.std.specs.Prelude.{◌≡◌, ℕ, ◌<◌, ◌%◌, ◌⊎◌, ℤ, pos, ◌<ℤ◌, List, [], length, slice_index_or}
use Rattle.std.specs.declared.cmp.Ordering.TheVariants.{Less}
use Rattle.space_ops.specs.declared.lattice.Lattice.{Lattice}
use Rattle.space_ops.specs.Matrix.{Vector}
use Rattle.space_ops.specs.Op.{number_at, shift_of}
use Rattle.space_ops.specs.Words.{IsLatticeVector}
use Rattle.space_ops.specs.LeastShift.{vector_cmp}
use Rattle.super_group.specs.Supercell.{IsInside}
use Rattle.super_group.specs.Quotient.{translation_at}

-- the first coordinate that differs is less
abbrev pub IsBefore : ℕ → ℕ → ℕ → Vector ℤ → Type 0
IsBefore x y z v = (v.x <ℤ pos x) ⊎ ((v.x ≡ pos x) × ((v.y <ℤ pos y) ⊎ ((v.y ≡ pos y) × (v.z <ℤ pos z))))

-- those before (x, y, z), rising
pub record AreTranslationsBefore (lattice : Lattice) (d : List ℕ) (x y z : ℕ) (ts : List (List ℤ)) : Type 0 where
  pub in_lattice : (t : ℕ) → t < length ts → IsLatticeVector lattice (translation_at ts t)
  pub inside : (t : ℕ) → t < length ts → IsInside d (translation_at ts t)
  pub before : (t : ℕ) → t < length ts → IsBefore x y z (translation_at ts t)
  pub rising : (s t : ℕ) → s < t → t < length ts → vector_cmp (translation_at ts s) (translation_at ts t) ≡ Less
  pub every : (v : Vector ℤ) → IsLatticeVector lattice v → IsInside d v → IsBefore x y z v → (t : ℕ) × (t < length ts) × (translation_at ts t ≡ v)
  pub shaped : (t : ℕ) → t < length ts → slice_index_or ts t [] ≡ shift_of (translation_at ts t)

-- c is x modulo 12
abbrev pub IsAt : ℤ → ℕ → Type 0
IsAt c x = c ≡ pos (x % 12)

-- coordinate j of vector i
abbrev pub coordinate : List (List ℤ) → ℕ → ℕ → ℤ
coordinate cs i j = number_at (slice_index_or cs i []) j

-- a vector has this first coordinate modulo 12
abbrev pub HasLayer : List (List ℤ) → ℕ → Type 0
HasLayer cs x = (i : ℕ) × (i < length cs) × IsAt (coordinate cs i 0) x

-- a vector has these two first coordinates modulo 12
abbrev pub HasColumn : List (List ℤ) → ℕ → ℕ → Type 0
HasColumn cs x y = (i : ℕ) × (i < length cs) × IsAt (coordinate cs i 0) x × IsAt (coordinate cs i 1) y

-- a vector has these coordinates modulo 12
abbrev pub HasPoint : List (List ℤ) → ℕ → ℕ → ℕ → Type 0
HasPoint cs x y z = (i : ℕ) × (i < length cs) × IsAt (coordinate cs i 0) x × IsAt (coordinate cs i 1) y × IsAt (coordinate cs i 2) z
