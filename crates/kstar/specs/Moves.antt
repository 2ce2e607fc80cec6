-- How operations move the arms of a star.
--
-- MovesArm p s r i j: operation r moves arm i to arm j
-- little_number p s r j i: the number of r_j^-1 r r_i, for the representatives of the arms
-- AreArmsMoved p k s: the operations act on the arms
use Rattle.std.specs.Prelude.{◌≡◌, ℕ, ◌<◌, ◌↔◌, ℤ, length, slice_index}
use Rattle.space_ops.specs.Matrix.{Vector}
use Rattle.space_ops.specs.Group.{Parent}
use Rattle.space_ops.specs.GroupLaws.{rotation_group}
use Rattle.kstar.specs.WaveVector.{AreEquivalent}
use Rattle.kstar.specs.Star.{WaveStar, IsLittle, image_at, row_in}

-- the image of arm i under operation r is equivalent to arm j
abbrev pub MovesArm : Parent → WaveStar → ℕ → ℕ → ℕ → Type 0
MovesArm p s r i j = AreEquivalent p.lattice (image_at p (row_in s.arms i) r) (row_in s.arms j)

-- the number of r_j^-1 r r_i
abbrev pub little_number : Parent → WaveStar → ℕ → ℕ → ℕ → ℕ
little_number p s r j i =
    let g = rotation_group p.ops in
    g.product (g.inverse (slice_index s.by j)) (g.product r (slice_index s.by i))

-- each operation moves arm i to exactly one arm, the identity keeps arms, a product moves them as its
-- right factor, then its left; r_j^-1 r r_i is in the little group exactly where r moves arm i to arm j
pub record AreArmsMoved (p : Parent) (k : Vector ℤ) (s : WaveStar) : Type 0 where
  pub some : (r i : ℕ) → r < length p.ops → i < length s.by → (j : ℕ) × (j < length s.by) × MovesArm p s r i j
  pub one : (r i j l : ℕ) → j < length s.by → l < length s.by → MovesArm p s r i j → MovesArm p s r i l → j ≡ l
  pub identity : (i : ℕ) → MovesArm p s 0 i i
  pub product : (a b i j l : ℕ) → a < length p.ops → b < length p.ops → MovesArm p s b i j → MovesArm p s a j l
      → MovesArm p s ((rotation_group p.ops).product a b) i l
  pub little : (r i j : ℕ) → r < length p.ops → i < length s.by → j < length s.by → IsLittle p k (little_number p s r j i) ↔ MovesArm p s r i j
