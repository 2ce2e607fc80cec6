-- Lines that were read so far, as lists of rotations and matrices.
--
-- AreRead p s n mats l rotations matrices: the rotations and carried matrices of the first l lines
-- AreSquare n rotations matrices: an n by n matrix for each number of a list
-- IsLineCause p s m rotations e: why a line is refused, after lines with these rotations
use Rattle.std.specs.Prelude.{◌≡◌, ℕ, ◌<◌, List, ⊤, true, false, length, slice_index, slice_index_or}
use Rattle.iso_text.specs.declared.sections.MatText.{MatText}
use Rattle.cyclo24.specs.declared.z24.Z24.{Z24}
use Rattle.lin_alg.specs.Matrix.{MatrixView}
use Rattle.space_ops.specs.Op.{seitz_of}
use Rattle.space_ops.specs.Group.{Parent}
use Rattle.space_ops.specs.Member.{rotation_of}
use Rattle.kstar.specs.Star.{WaveStar}
use Rattle.small_rep.specs.SmallRep.{IsLittleOp, is_listed}
use Rattle.small_rep.specs.Reading.{op_of_text, rotation_at, carried_at, AreGoodLines, IsWideAt}
use Rattle.small_rep.specs.Rep.{no_matrix, entry_at}
use Rattle.small_rep.specs.declared.errors.RepError.{RepError}
use Rattle.small_rep.specs.declared.errors.RepError.TheVariants.{NotLittle, RotationTwice, RotationMissing, NotUnit, NotMultiplying, NotIrreducible, Wide, NoMemory}

-- the rotations and carried matrices of the first l lines
pub record AreRead (p : Parent) (s : WaveStar) (n : ℕ) (mats : List MatText) (l : ℕ) (rotations : List ℕ) (matrices : List (MatrixView Z24)) : Type 0 where
  pub good : AreGoodLines p s mats l
  pub rotation_count : length rotations ≡ l
  pub matrix_count : length matrices ≡ l
  pub rotation : (i : ℕ) → i < l → slice_index rotations i ≡ rotation_at p mats i
  pub rows : (i : ℕ) → i < l → (slice_index_or matrices i no_matrix).rows ≡ n
  pub cols : (i : ℕ) → i < l → (slice_index_or matrices i no_matrix).cols ≡ n
  pub entries : (i x y : ℕ) → i < l → x < n → y < n → entry_at matrices i x y ≡ carried_at p s n mats i x y

-- an n by n matrix for each number of a list
pub record AreSquare (n : ℕ) (rotations : List ℕ) (matrices : List (MatrixView Z24)) : Type 0 where
  pub count : length matrices ≡ length rotations
  pub rows : (l : ℕ) → l < length matrices → (slice_index_or matrices l no_matrix).rows ≡ n
  pub cols : (l : ℕ) → l < length matrices → (slice_index_or matrices l no_matrix).cols ≡ n

-- why a line is refused, after lines with these rotations
abbrev pub IsLineCause : Parent → WaveStar → MatText → List ℕ → RepError → Type 0
IsLineCause p s m rotations (NotLittle n) = (n ≡ m.line) × (IsLittleOp p s (seitz_of (op_of_text m.op)) → ⊥)
IsLineCause p s m rotations (RotationTwice n) = (n ≡ m.line) × IsLittleOp p s (seitz_of (op_of_text m.op)) × (is_listed rotations (rotation_of p (seitz_of (op_of_text m.op))) ≡ true)
IsLineCause p s m rotations (RotationMissing op) = ⊥
IsLineCause p s m rotations NotUnit = ⊥
IsLineCause p s m rotations (NotMultiplying a b) = ⊥
IsLineCause p s m rotations (NotIrreducible sum n) = ⊥
IsLineCause p s m rotations (Wide f) = (f ≡ 0) × IsLittleOp p s (seitz_of (op_of_text m.op)) × (is_listed rotations (rotation_of p (seitz_of (op_of_text m.op))) ≡ false) × IsWideAt p s (seitz_of (op_of_text m.op)) m.entries
IsLineCause p s m rotations NoMemory = ⊤
