-- The little group and the star of a wave vector.
--
-- image_at p k r: the image of k under operation r of the list
-- IsLittle p k r: operation r leaves k equivalent to itself
-- IsFirstOfArm p k r: no operation before r gives an image of k that is equivalent to that of r
-- WaveStar: what contracts see of a star
-- row_in rows i: row i of a list
-- AreImages p k by rows: the rows are the images of k under the operations with these numbers
-- IsStarOf p k s: s is the star of k under the group p
-- HasFirstArm k s: arm 0 is k itself, by operation 0
-- AreInequivalent lattice s: the arms are pairwise inequivalent
-- CoverImages p k s: each image of k is equivalent to an arm
-- IsFirstBad vectors k f, IsFirstBadPhase lattice k f: the first k.c that is no multiple of 1/24, in lowest terms
use Rattle.std.specs.Prelude.{◌≡◌, ℕ, ◌<◌, ℤ, List, [], length, slice_index_or, slice_index}
use Rattle.algebra.specs.RisingLists.{IsRisingListOf}
use Rattle.iso_text.specs.declared.numbers.Frac.{Frac}
use Rattle.iso_text.specs.Fractions.{IsLowest}
use Rattle.space_ops.specs.declared.lattice.Lattice.{Lattice}
use Rattle.space_ops.specs.Matrix.{Vector}
use Rattle.space_ops.specs.Op.{vector_of}
use Rattle.space_ops.specs.Lattice.{centrings_of}
use Rattle.space_ops.specs.Words.{op_at}
use Rattle.space_ops.specs.Group.{Parent}
use Rattle.kstar.specs.WaveVector.{row_value, image_of, AreEquivalent, IsInLittleGroup, HasPhase}

-- the image of k under operation r of the list
abbrev pub image_at : Parent → Vector ℤ → ℕ → Vector ℤ
image_at p k r = image_of k (op_at p.ops r).rot

-- operation r leaves k equivalent to itself
abbrev pub IsLittle : Parent → Vector ℤ → ℕ → Type 0
IsLittle p k r = IsInLittleGroup p.lattice k (op_at p.ops r).rot

-- no operation before r gives an image of k that is equivalent to that of r
abbrev pub IsFirstOfArm : Parent → Vector ℤ → ℕ → Type 0
IsFirstOfArm p k r = (s : ℕ) → s < r → AreEquivalent p.lattice (image_at p k s) (image_at p k r) → ⊥

-- what contracts see of a star; rows are in twelfths
pub record WaveStar : Type 0 where
  pub lattice : Lattice
  pub row : Vector ℤ
  pub little : List ℕ
  pub by : List ℕ
  pub arms : List (List ℤ)

-- row i of a list
abbrev pub row_in : List (List ℤ) → ℕ → Vector ℤ
row_in rows i = vector_of (slice_index_or rows i [])

-- the rows are the images of k under the operations with these numbers
pub record AreImages (p : Parent) (k : Vector ℤ) (by : List ℕ) (rows : List (List ℤ)) : Type 0 where
  pub count : length rows ≡ length by
  pub image : (i : ℕ) → i < length by → row_in rows i ≡ image_at p k (slice_index by i)

-- s is the star of k under the group p
pub record IsStarOf (p : Parent) (k : Vector ℤ) (s : WaveStar) : Type 0 where
  pub lattice : s.lattice ≡ p.lattice
  pub row : s.row ≡ k
  pub little : IsRisingListOf (length p.ops) (IsLittle p k) s.little
  pub by : IsRisingListOf (length p.ops) (IsFirstOfArm p k) s.by
  pub arms : AreImages p k s.by s.arms

-- arm 0 is k itself, by operation 0
pub record HasFirstArm (k : Vector ℤ) (s : WaveStar) : Type 0 where
  pub some : 0 < length s.by
  pub by : slice_index s.by 0 ≡ 0
  pub row : row_in s.arms 0 ≡ k

-- the arms are pairwise inequivalent
abbrev pub AreInequivalent : Lattice → WaveStar → Type 0
AreInequivalent lattice s = (i j : ℕ) → i < length s.by → j < length s.by → AreEquivalent lattice (row_in s.arms i) (row_in s.arms j) → i ≡ j

-- each image of k is equivalent to an arm
abbrev pub CoverImages : Parent → Vector ℤ → WaveStar → Type 0
CoverImages p k s = (r : ℕ) → r < length p.ops → (i : ℕ) × (i < length s.by) × AreEquivalent p.lattice (row_in s.arms i) (image_at p k r)

-- the first vector of a list with k.c no multiple of 1/24, and this k.c in lowest terms
pub record IsFirstBad (vectors : List (List ℤ)) (k : Vector ℤ) (f : Frac) : Type 0 where
  pub place : ℕ
  pub listed : place < length vectors
  pub bad : HasPhase k (row_in vectors place) → ⊥
  pub first : (i : ℕ) → i < place → HasPhase k (row_in vectors i)
  pub phase : IsLowest (row_value k (row_in vectors place)) 144 f

-- the first k.c that is no multiple of 1/24, in lowest terms
abbrev pub IsFirstBadPhase : Lattice → Vector ℤ → Frac → Type 0
IsFirstBadPhase lattice k f = IsFirstBad (centrings_of lattice) k f
