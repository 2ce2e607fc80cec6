-- The parent group of a list of generators and a lattice, as the list of its operations.
--
-- AreGenerators gens: at most 5, entries from -3 to 3, determinant 1 or -1, translations from 0 to 11
-- IsGeneratorOp g: the same of one operation
-- matrix_cmp a b: rotations in order of their first entries that differ, row by row
-- IsListed lattice ops g: g is a lattice translation after a listed operation
-- IsListOf gens lattice ops: the identity, then the others by rising entries, each with its least translation
-- Parent: a list of operations with its lattice and generators, what contracts see of a group
-- IsParentGroup p: p lists the group of its generators and its lattice, of at most 48 small rotations
-- IsCauseOf gens lattice error: when the group isn't listed
use Rattle.std.specs.Prelude.{◌≡◌, ℕ, ◌<◌, ◌≤◌, ⊤, ℤ, List, length, slice_index_or}
use Rattle.std.specs.declared.cmp.Ordering.{Ordering}
use Rattle.std.specs.declared.cmp.Ordering.TheVariants.{Less, Greater}
use Rattle.space_ops.specs.declared.op.Op.{Op}
use Rattle.space_ops.specs.declared.lattice.Lattice.{Lattice}
use Rattle.space_ops.specs.declared.group.GroupError.{GroupError}
use Rattle.space_ops.specs.declared.group.GroupError.TheVariants.{TooManyRotations, ExtraTranslation, NoMemory}
use Rattle.algebra.specs.Whole.{whole}
use Rattle.space_ops.specs.Matrix.{Matrix}
use Rattle.space_ops.specs.Seitz.{Seitz, seitz_identity}
use Rattle.space_ops.specs.Op.{identity_op, rows_of, IsSmallMatrix, IsUnimodular}
use Rattle.space_ops.specs.Words.{op_at, IsSameUpToLattice, IsWord, HasTooManyRotations, HasExtraTranslation}
use Rattle.space_ops.specs.Order.{rows_cmp}
use Rattle.space_ops.specs.LeastShift.{IsInCell, IsShaped, vector_cmp}

abbrev pub IsGeneratorOp : Seitz ℤ → Type 0
IsGeneratorOp g = IsSmallMatrix g.rot × IsUnimodular g.rot × IsInCell g.shift

pub record AreGenerators (gens : List Op) : Type 0 where
  pub few : length gens ≤ 5
  pub small : (i : ℕ) → i < length gens → IsSmallMatrix (op_at gens i).rot
  pub unimodular : (i : ℕ) → i < length gens → IsUnimodular (op_at gens i).rot
  pub in_cell : (i : ℕ) → i < length gens → IsInCell (op_at gens i).shift

abbrev pub matrix_cmp : Matrix ℤ → Matrix ℤ → Ordering
matrix_cmp a b = rows_cmp (rows_of a) (rows_of b)

pub record IsListed (lattice : Lattice) (ops : List Op) (g : Seitz ℤ) : Type 0 where
  pub place : ℕ
  pub below : place < length ops
  pub same : IsSameUpToLattice lattice g (op_at ops place)

pub record IsListOf (gens : List Op) (lattice : Lattice) (ops : List Op) : Type 0 where
  -- the identity is first
  pub some : 0 < length ops
  pub identity : op_at ops 0 ≡ seitz_identity whole
  -- one operation for each rotation, the others by rising entries
  pub apart : (i j : ℕ) → i < length ops → j < length ops → (op_at ops i).rot ≡ (op_at ops j).rot → i ≡ j
  pub rising : (i j : ℕ) → 0 < i → i < j → j < length ops → matrix_cmp (op_at ops i).rot (op_at ops j).rot ≡ Less
  -- words, and each word is listed up to a lattice translation
  pub are_words : (i : ℕ) → i < length ops → IsWord gens lattice (op_at ops i)
  pub complete : (g : Seitz ℤ) → IsWord gens lattice g → IsListed lattice ops g
  -- the least translation from 0 to 11 that belongs to the rotation
  pub in_cell : (i : ℕ) → i < length ops → IsInCell (op_at ops i).shift
  pub least : (i : ℕ) → i < length ops → (g : Seitz ℤ) → IsWord gens lattice g → g.rot ≡ (op_at ops i).rot → IsInCell g.shift
      → vector_cmp (op_at ops i).shift g.shift ≡ Greater → ⊥
  pub shaped : (i : ℕ) → i < length ops → IsShaped (slice_index_or ops i identity_op)

pub record Parent : Type 0 where
  pub ops : List Op
  pub lattice : Lattice
  pub generators : List Op

pub record IsParentGroup (p : Parent) : Type 0 where
  pub generators : AreGenerators p.generators
  pub list : IsListOf p.generators p.lattice p.ops
  pub few : length p.ops ≤ 48
  pub small : (i : ℕ) → i < length p.ops → IsSmallMatrix (op_at p.ops i).rot

abbrev pub IsCauseOf : List Op → Lattice → GroupError → Type 0
IsCauseOf gens lattice TooManyRotations = HasTooManyRotations gens lattice
IsCauseOf gens lattice ExtraTranslation = (HasTooManyRotations gens lattice → ⊥) × HasExtraTranslation gens lattice
IsCauseOf gens lattice NoMemory = ⊤
