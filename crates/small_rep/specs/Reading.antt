-- How the `mat` lines of an irrep block give the matrices of a little group.
--
-- no_line, operation_at mats l, rotation_at p mats l: line l, its operation, the number of its rotation
-- carried_at p s n mats l x y: entry (x, y) of line l, carried to the listed operation
-- AreGoodLines p s mats l: the first l lines are of different rotations of the little group
-- HasLine p mats r: rotation r has a line
-- AreReadFrom p s n mats g: the lines are good, each rotation has one, and g are their carried matrices
-- IsNotLittleLine, IsTwiceLine: the first line that isn't of the little group; whose rotation an earlier line has
-- IsMissing: the first listed operation of the little group without a line
-- IsWideReading: the product of the phase of a line with one of its entries is wide
-- IsReadCause p s mats e: why a block is refused
use Rattle.std.specs.Prelude.{◌≡◌, ℕ, ◌<◌, ◌+◌, ◌*◌, ℤ, List, [], IsTrue, ⊤, length, slice_index, slice_index_or}
use Rattle.iso_text.specs.declared.numbers.OpText.{OpText}
use Rattle.iso_text.specs.declared.numbers.Term.{Term}
use Rattle.iso_text.specs.declared.sections.MatText.{MatText}
use Rattle.algebra.specs.Whole.{whole}
use Rattle.cyclo24.specs.ExactZ24.{ExactZ24, power, is_wide_product_z24}
use Rattle.cyclo24.specs.Terms.{terms_value}
use Rattle.space_ops.specs.declared.op.Op.{Op}
use Rattle.space_ops.specs.Matrix.{minus_vector}
use Rattle.space_ops.specs.Seitz.{Seitz}
use Rattle.space_ops.specs.Op.{seitz_of, identity_op}
use Rattle.space_ops.specs.Group.{Parent}
use Rattle.space_ops.specs.Member.{rotation_of, rest_of}
use Rattle.kstar.specs.WaveVector.{phase_of}
use Rattle.kstar.specs.Star.{WaveStar}
use Rattle.small_rep.specs.SmallRep.{Matrices, IsLittleOp, carried}
use Rattle.small_rep.specs.declared.errors.RepError.{RepError}
use Rattle.small_rep.specs.declared.errors.RepError.TheVariants.{NotLittle, RotationTwice, RotationMissing, NotUnit, NotMultiplying, NotIrreducible, Wide, NoMemory}

-- the operation of a line
abbrev pub op_of_text : OpText → Op
op_of_text o = record { rot = o.rows; shift = o.shift }

abbrev pub no_line : MatText
no_line = record { line = 0; op = record { rows = []; shift = [] }; entries = [] }

-- the operation of line l
abbrev pub operation_at : List MatText → ℕ → Seitz ℤ
operation_at mats l = seitz_of (op_of_text (slice_index_or mats l no_line).op)

-- the number of the rotation of line l
abbrev pub rotation_at : Parent → List MatText → ℕ → ℕ
rotation_at p mats l = rotation_of p (operation_at mats l)

-- entry (x, y) of the n by n matrix of line l, carried to the listed operation
abbrev pub carried_at : Parent → WaveStar → ℕ → List MatText → ℕ → ℕ → ℕ → ExactZ24
carried_at p s n mats l x y = carried p s (operation_at mats l) (terms_value (slice_index_or (slice_index_or mats l no_line).entries (x * n + y) []))

-- the first l lines are of different rotations of the little group
pub record AreGoodLines (p : Parent) (s : WaveStar) (mats : List MatText) (l : ℕ) : Type 0 where
  pub little : (i : ℕ) → i < l → IsLittleOp p s (operation_at mats i)
  pub apart : (i j : ℕ) → i < j → j < l → rotation_at p mats i ≡ rotation_at p mats j → ⊥

-- rotation r has a line
abbrev pub HasLine : Parent → List MatText → ℕ → Type 0
HasLine p mats r = (l : ℕ) × (l < length mats) × (rotation_at p mats l ≡ r)

-- one line for each rotation of the little group, and its matrix carried to the listed operation
pub record AreReadFrom (p : Parent) (s : WaveStar) (n : ℕ) (mats : List MatText) (g : Matrices) : Type 0 where
  pub lines : AreGoodLines p s mats (length mats)
  pub complete : (i : ℕ) → i < length s.little → HasLine p mats (slice_index s.little i)
  pub matrices : (l x y : ℕ) → l < length mats → x < n → y < n → g (rotation_at p mats l) x y ≡ carried_at p s n mats l x y

-- number n is that of the first bad line, whose operation isn't in the little group
pub record IsNotLittleLine (p : Parent) (s : WaveStar) (mats : List MatText) (n : ℕ) : Type 0 where
  pub place : ℕ
  pub listed : place < length mats
  pub before : AreGoodLines p s mats place
  pub number : n ≡ (slice_index_or mats place no_line).line
  pub apart : IsLittleOp p s (operation_at mats place) → ⊥

-- number n is that of the first bad line, whose rotation was given on an earlier line
pub record IsTwiceLine (p : Parent) (s : WaveStar) (mats : List MatText) (n : ℕ) : Type 0 where
  pub place : ℕ
  pub listed : place < length mats
  pub before : AreGoodLines p s mats place
  pub number : n ≡ (slice_index_or mats place no_line).line
  pub little : IsLittleOp p s (operation_at mats place)
  pub earlier : ℕ
  pub is_earlier : earlier < place
  pub same : rotation_at p mats earlier ≡ rotation_at p mats place

-- the first rotation of the little group without a line, as its listed operation
pub record IsMissing (p : Parent) (s : WaveStar) (mats : List MatText) (op : Op) : Type 0 where
  pub lines : AreGoodLines p s mats (length mats)
  pub place : ℕ
  pub listed : place < length s.little
  pub before : (i : ℕ) → i < place → HasLine p mats (slice_index s.little i)
  pub none : HasLine p mats (slice_index s.little place) → ⊥
  pub op_is : op ≡ slice_index_or p.ops (slice_index s.little place) identity_op

-- the product of the phase of an operation with one of the numbers is wide
abbrev pub IsWideAt : Parent → WaveStar → Seitz ℤ → List (List Term) → Type 0
IsWideAt p s h numbers = (e : ℕ) × (e < length numbers) × IsTrue (is_wide_product_z24 (power (phase_of s.row (minus_vector whole (rest_of p h)))) (terms_value (slice_index_or numbers e [])))

-- a good line after good lines is wide
pub record IsWideReading (p : Parent) (s : WaveStar) (mats : List MatText) : Type 0 where
  pub place : ℕ
  pub listed : place < length mats
  pub before : AreGoodLines p s mats (place + 1)
  pub wide : IsWideAt p s (operation_at mats place) (slice_index_or mats place no_line).entries

-- why a block is refused
abbrev pub IsReadCause : Parent → WaveStar → List MatText → RepError → Type 0
IsReadCause p s mats (NotLittle n) = IsNotLittleLine p s mats n
IsReadCause p s mats (RotationTwice n) = IsTwiceLine p s mats n
IsReadCause p s mats (RotationMissing op) = IsMissing p s mats op
IsReadCause p s mats NotUnit = ⊥
IsReadCause p s mats (NotMultiplying a b) = ⊥
IsReadCause p s mats (NotIrreducible sum n) = ⊥
IsReadCause p s mats (Wide f) = (f ≡ 0) × IsWideReading p s mats
IsReadCause p s mats NoMemory = ⊤
