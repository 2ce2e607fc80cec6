-- Wave vectors as rows of whole numbers: 12 k, beside translations in twelfths.
--
-- row_value k t: the row k times the column t; 144 (k.t) where both are in twelfths
-- image_of k r: the row k R^-1
-- IsWhole lattice k: k.t is whole for every lattice translation t
-- AreEquivalent lattice k l: the difference of k and l has a whole product with every lattice translation
-- IsInLittleGroup lattice k r: the image of k under r is equivalent to k
-- HasPhase k t: k.t is a multiple of 1/24
-- HasPhases lattice k: k.t is a multiple of 1/24 for every centring vector t
-- turn_of x, phase_of k t: the power p of z = exp(2 pi i / 24) with z^p = exp(-2 pi i k.t), where x is 144 (k.t)
use Rattle.std.specs.Prelude.{ℕ, ◌<◌, ◌/◌, ℤ, pos, neg_ℤ, length}
use Rattle.std.specs.Int.{int_rem_euclid}
use Rattle.std.specs.Int.RustNames.{unsigned_abs}
use Rattle.space_ops.specs.declared.lattice.Lattice.{Lattice}
use Rattle.algebra.specs.Multiples.{IsMultiple}
use Rattle.algebra.specs.Whole.{whole}
use Rattle.space_ops.specs.Matrix.{Matrix, Vector, row_times}
use Rattle.space_ops.specs.Seitz.{inverse_matrix}
use Rattle.space_ops.specs.Lattice.{centrings_of}
use Rattle.space_ops.specs.Words.{centring_at, vector_difference, IsLatticeVector}

-- the row k times the column t
abbrev pub row_value : Vector ℤ → Vector ℤ → ℤ
row_value k t = row_times whole k.x k.y k.z t.x t.y t.z

-- the row k times the matrix a
abbrev pub row_product : Vector ℤ → Matrix ℤ → Vector ℤ
row_product k a = record {
  x = row_times whole k.x k.y k.z a.r00 a.r10 a.r20;
  y = row_times whole k.x k.y k.z a.r01 a.r11 a.r21;
  z = row_times whole k.x k.y k.z a.r02 a.r12 a.r22;
}

-- the row k R^-1
abbrev pub image_of : Vector ℤ → Matrix ℤ → Vector ℤ
image_of k r = row_product k (inverse_matrix whole r)

-- k.t is whole for every lattice translation t
abbrev pub IsWhole : Lattice → Vector ℤ → Type 0
IsWhole lattice k = (t : Vector ℤ) → IsLatticeVector lattice t → IsMultiple 144 (row_value k t)

-- the difference has a whole product with every lattice translation
abbrev pub AreEquivalent : Lattice → Vector ℤ → Vector ℤ → Type 0
AreEquivalent lattice k l = IsWhole lattice (vector_difference k l)

-- the image of k under r is equivalent to k
abbrev pub IsInLittleGroup : Lattice → Vector ℤ → Matrix ℤ → Type 0
IsInLittleGroup lattice k r = AreEquivalent lattice (image_of k r) k

-- k.t is a multiple of 1/24
abbrev pub HasPhase : Vector ℤ → Vector ℤ → Type 0
HasPhase k t = IsMultiple 6 (row_value k t)

-- k.t is a multiple of 1/24 for every centring vector t
abbrev pub HasPhases : Lattice → Vector ℤ → Type 0
HasPhases lattice k = (i : ℕ) → i < length (centrings_of lattice) → HasPhase k (centring_at lattice i)

-- -(x / 144) modulo 1, in units of 1/24
abbrev pub turn_of : ℤ → ℕ
turn_of x = unsigned_abs (int_rem_euclid (neg_ℤ x) (pos 144)) / 6

-- exp(-2 pi i k.t) is z to this power
unfoldable pub phase_of : Vector ℤ → Vector ℤ → ℕ
phase_of k t = turn_of (row_value k t)
