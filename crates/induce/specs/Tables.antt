-- The tables that give every block of every induced matrix.
--
-- no_move: nothing
-- IsMoveOf q s e i move: the block that isn't 0 in column i of blocks of D(e): its row, the rotation of r_j^-1 g r_i by
--   its place in the little group, and the phase of its translation
-- AreMoves q s moves k: the first k moves, those of operation r T by columns, for each r
-- ArePhases q s phases k: the first k phases, those of r_j^-1 {E|t} r_j by translations, for each arm j
-- HasPower q s a: some translation has the phase z^a on the first arm
-- IsPhased n m a r x: x is z^a G(r), n by n
-- AreProducts q s n m matrices k: the first k matrices, those of z^a by the little group, for each a
-- size_in t, matrices_in t, dimension_in t, matrix_in q t e, character_in q t e: the small dimension and matrices, the
--   dimension of D, D and the character of element e
-- AreTablesOf q t: the moves, phases and matrices of all operations, translations and powers
-- AreCharacters q t xs k: the characters of the first k elements
-- IsPlaceOf q t e i place: the row and the matrix of the block that isn't 0 in column i of D(e)
use Rattle.std.specs.Prelude.{◌≡◌, ℕ, ◌<◌, ◌*◌, ◌/◌, ◌%◌, List, true, length, slice_index, slice_index_or}
use Rattle.cyclo24.specs.declared.z24.Z24.{Z24}
use Rattle.cyclo24.specs.ExactZ24.{ExactZ24, z24_laws}
use Rattle.cyclo24.specs.Z24.{exact_z24}
use Rattle.lin_alg.specs.Rows.{vector}
use Rattle.lin_alg.specs.Matrix.{MatrixView, entry}
use Rattle.space_ops.specs.Member.{rotation_of}
use Rattle.kstar.specs.Star.{WaveStar}
use Rattle.super_group.specs.Quotient.{SupercellGroup, element_of}
use Rattle.small_rep.specs.SmallRep.{Matrices, phased, little_matrix}
use Rattle.small_rep.specs.Rep.{no_matrix, matrices_of}
use Rattle.induce.specs.Induced.{little_part, is_block, part_phase, IsInducible, dimension_of, induced_of, character_at}
use Rattle.induce.specs.declared.moves.Move.{Move}
use Rattle.induce.specs.declared.tables.Tables.{Tables}
use Rattle.induce.specs.declared.tables.Place.{Place}

abbrev pub no_move : Move
no_move = record { row = 0; little = 0; power = 0 }

-- the block that isn't 0 in column i of blocks of D(e)
pub record IsMoveOf (q : SupercellGroup) (s : WaveStar) (e i : ℕ) (move : Move) : Type 0 where
  pub row : move.row < length s.by
  pub block : is_block q.parent s (element_of q e) move.row i ≡ true
  pub listed : move.little < length s.little
  pub rotation : slice_index s.little move.little ≡ rotation_of q.parent (little_part q.parent s (element_of q e) move.row i)
  pub power : move.power ≡ part_phase q.parent s (element_of q e) move.row i

-- the moves of operation r T by columns, for each r
pub record AreMoves (q : SupercellGroup) (s : WaveStar) (moves : List Move) (k : ℕ) : Type 0 where
  pub count : length moves ≡ k
  pub each : (d : ℕ) → d < k → IsMoveOf q s (d / length s.by * length q.translations) (d % length s.by) (slice_index_or moves d no_move)

-- the phases of r_j^-1 {E|t} r_j by translations, for each arm j
pub record ArePhases (q : SupercellGroup) (s : WaveStar) (phases : List ℕ) (k : ℕ) : Type 0 where
  pub count : length phases ≡ k
  pub each : (d : ℕ) → d < k
      → slice_index phases d ≡ part_phase q.parent s (element_of q (d % length q.translations)) (d / length q.translations) (d / length q.translations)

-- some translation has the phase z^a on the first arm
abbrev pub HasPower : SupercellGroup → WaveStar → ℕ → Type 0
HasPower q s a = (t : ℕ) × (t < length q.translations) × (part_phase q.parent s (element_of q t) 0 0 ≡ a)

-- z^a G(r), n by n
pub record IsPhased (n : ℕ) (m : Matrices) (a r : ℕ) (x : MatrixView Z24) : Type 0 where
  pub rows : x.rows ≡ n
  pub cols : x.cols ≡ n
  pub entries : (i j : ℕ) → i < n → j < n → entry z24_laws exact_z24 x i j ≡ phased a (m r i j)

-- the matrices of z^a by the little group, for each a that is a phase of a translation
pub record AreProducts (q : SupercellGroup) (s : WaveStar) (n : ℕ) (m : Matrices) (matrices : List (MatrixView Z24)) (k : ℕ) : Type 0 where
  pub count : length matrices ≡ k
  pub each : (d : ℕ) → d < k → HasPower q s (d / length s.little)
      → IsPhased n m (d / length s.little) (slice_index s.little (d % length s.little)) (slice_index_or matrices d no_matrix)

-- the small dimension, and the matrices by rotation number
abbrev pub size_in : Tables → ℕ
size_in t = t.rep.rep.size

abbrev pub matrices_in : Tables → Matrices
matrices_in t = matrices_of t.rep.rep

-- the dimension of D
abbrev pub dimension_in : Tables → ℕ
dimension_in t = dimension_of t.star (size_in t)

-- D of element e of a quotient
abbrev pub matrix_in : SupercellGroup → Tables → ℕ → ℕ → ℕ → ExactZ24
matrix_in q t e = induced_of q t.star (size_in t) (matrices_in t) e

-- the character of element e
abbrev pub character_in : SupercellGroup → Tables → ℕ → ExactZ24
character_in q t e = character_at q t.star (size_in t) (matrices_in t) e

-- the moves, phases and matrices of all operations, translations and powers
pub record AreTablesOf (q : SupercellGroup) (t : Tables) : Type 0 where
  pub inducible : IsInducible q t.star (size_in t) (matrices_in t)
  pub moves : AreMoves q t.star t.moves.items (length q.parent.ops * length t.star.by)
  pub phases : ArePhases q t.star t.phases.items (length t.star.by * length q.translations)
  pub products : AreProducts q t.star (size_in t) (matrices_in t) t.matrices.items (24 * length t.star.little)

-- the characters of the first k elements
pub record AreCharacters (q : SupercellGroup) (t : Tables) (xs : List Z24) (k : ℕ) : Type 0 where
  pub count : length xs ≡ k
  pub each : (e : ℕ) → e < k → vector z24_laws exact_z24 xs e ≡ character_in q t e

-- the row and the matrix of the block that isn't 0 in column i of blocks of D(e)
pub record IsPlaceOf (q : SupercellGroup) (t : Tables) (e i : ℕ) (place : Place) : Type 0 where
  pub row : place.row < length t.star.by
  pub listed : place.matrix < length t.matrices.items
  pub block : is_block q.parent t.star (element_of q e) place.row i ≡ true
  pub only : (j : ℕ) → j < length t.star.by → is_block q.parent t.star (element_of q e) j i ≡ true → j ≡ place.row
  pub rows : (slice_index_or t.matrices.items place.matrix no_matrix).rows ≡ size_in t
  pub cols : (slice_index_or t.matrices.items place.matrix no_matrix).cols ≡ size_in t
  pub entries : (x y : ℕ) → x < size_in t → y < size_in t
      → entry z24_laws exact_z24 (slice_index_or t.matrices.items place.matrix no_matrix) x y
      ≡ little_matrix q.parent t.star (matrices_in t) (little_part q.parent t.star (element_of q e) place.row i) x y
