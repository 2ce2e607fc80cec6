-- A small representation as it was read.
--
-- no_matrix, entry_at matrices l x y: the matrix without entries; the exact entry (x, y) of matrix l
-- RepView: what contracts see of a small representation
-- first_place xs r: the first place of a number in a list
-- matrices_of v: its matrices by rotation number
-- pair_at v e: ordered pair e of the little group, row by row
-- IsRep v: its lists belong together
-- AreListedOps p little ops: the listed operations of the numbers of a list
-- IsRepOf p s v: the little group, the listed operations and the products of pairs are those of the group and the star
use Rattle.std.specs.Prelude.{◌≡◌, ℕ, ◌<◌, ◌≤◌, ◌*◌, List, [], true, nat_eq, length, slice_index, slice_index_or}
use Rattle.std.specs.List.{position_or_len}
use Rattle.cyclo24.specs.declared.z24.Z24.{Z24}
use Rattle.cyclo24.specs.ExactZ24.{ExactZ24, z24_laws}
use Rattle.cyclo24.specs.Z24.{exact_z24}
use Rattle.lin_alg.specs.Matrix.{MatrixView, entry}
use Rattle.space_ops.specs.declared.op.Op.{Op}
use Rattle.space_ops.specs.Op.{identity_op}
use Rattle.space_ops.specs.Group.{Parent}
use Rattle.kstar.specs.Star.{WaveStar}
use Rattle.small_rep.specs.SmallRep.{Matrices, is_listed}
use Rattle.small_rep.specs.Pairs.{no_pair, ArePairs, AreListed}
use Rattle.small_rep.specs.declared.pairs.Pair.{Pair}

abbrev pub no_matrix : MatrixView Z24
no_matrix = record { rows = 0; cols = 0; entries = [] }

-- the exact entry (x, y) of matrix l of a list
abbrev pub entry_at : List (MatrixView Z24) → ℕ → ℕ → ℕ → ExactZ24
entry_at matrices l x y = entry z24_laws exact_z24 (slice_index_or matrices l no_matrix) x y

-- size, little group and its listed operations, the product of each ordered pair, and the matrices with their rotations
pub record RepView : Type 0 where
  pub size : ℕ
  pub little : List ℕ
  pub ops : List Op
  pub pairs : List Pair
  pub rotations : List ℕ
  pub matrices : List (MatrixView Z24)

-- the first place of a number in a list
abbrev pub first_place : List ℕ → ℕ → ℕ
first_place xs r = position_or_len (λ x. nat_eq x r) xs

-- entry (x, y) of the matrix of rotation r
abbrev pub matrices_of : RepView → Matrices
matrices_of v r x y = entry_at v.matrices (first_place v.rotations r) x y

-- ordered pair e of the little group, row by row
abbrev pub pair_at : RepView → ℕ → Pair
pair_at v e = slice_index_or v.pairs e no_pair

-- the lists belong together
pub record IsRep (v : RepView) : Type 0 where
  pub some : 1 ≤ v.size
  pub few : v.size ≤ 6
  pub rotations_few : length v.little ≤ 48
  pub ops_count : length v.ops ≡ length v.little
  pub pairs_count : length v.pairs ≡ length v.little * length v.little
  pub products : (e : ℕ) → e < length v.pairs → is_listed v.little (pair_at v e).product ≡ true
  pub powers : (e : ℕ) → e < length v.pairs → (pair_at v e).power < 24
  pub given : AreListed v.little v.rotations
  pub identity : is_listed v.little 0 ≡ true
  pub matrix_count : length v.matrices ≡ length v.rotations
  pub rows : (l : ℕ) → l < length v.matrices → (slice_index_or v.matrices l no_matrix).rows ≡ v.size
  pub cols : (l : ℕ) → l < length v.matrices → (slice_index_or v.matrices l no_matrix).cols ≡ v.size

-- the listed operations of the numbers of a list
abbrev pub AreListedOps : Parent → List ℕ → List Op → Type 0
AreListedOps p little ops = (i : ℕ) → i < length little → slice_index_or ops i identity_op ≡ slice_index_or p.ops (slice_index little i) identity_op

-- the little group, its operations and their products are those of the group and the star
pub record IsRepOf (p : Parent) (s : WaveStar) (v : RepView) : Type 0 where
  pub little : v.little ≡ s.little
  pub ops : AreListedOps p s.little v.ops
  pub pairs : ArePairs p s s.little v.pairs
