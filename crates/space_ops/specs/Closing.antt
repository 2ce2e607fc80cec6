-- How the operations of a group are found: the list of words so far, and the products that it holds.
--
-- AreStepOps gens lattice n steps: operations that stand for the first n generators and their inverses
-- AddsSteps lattice g steps steps': g and its inverse are added to the steps
-- AreHeld steps lattice held: words over the steps, of different small rotations with least translations, the identity first
-- IsMet lattice held conflict g: the rotation of g is held, and up to a conflict g is
-- IsClosing steps lattice held conflict n k: the products of the first n held ones with each step are met,
--   and those of the next one with the first k steps
-- IsHolding held held' op conflict: the rotation of op was or is now held
-- IsPastLimits held op: op has a large rotation, or a new one past the 48th
-- KeepsLattice lattice r, LosesLattice lattice r: r takes lattice vectors into the lattice; it takes one outside
-- IsClosedList gens lattice held: each word over the generators is listed
use Rattle.std.specs.Prelude.{◌≡◌, ℕ, ◌<◌, ◌≤◌, ◌⊎◌, Bool, true, false, ℤ, List, [], ◌∷◌, ◌++◌, length, slice_index_or}
use Rattle.space_ops.specs.declared.op.Op.{Op}
use Rattle.space_ops.specs.declared.lattice.Lattice.{Lattice}
use Rattle.algebra.specs.Whole.{whole}
use Rattle.space_ops.specs.Matrix.{Matrix, Vector, image_under}
use Rattle.space_ops.specs.Seitz.{Seitz, seitz_product, seitz_inverse, seitz_identity}
use Rattle.space_ops.specs.Op.{seitz_of, identity_op, IsSmallMatrix, IsUnimodular}
use Rattle.space_ops.specs.Words.{op_at, vector_difference, IsLatticeVector, IsWord, HasExtraTranslation}
use Rattle.space_ops.specs.LeastShift.{IsInCell, IsShaped, IsLeastShift, IsLeastOp}
use Rattle.space_ops.specs.Group.{IsListed}

pub record AreStepOps (gens : List Op) (lattice : Lattice) (n : ℕ) (steps : List Op) : Type 0 where
  pub are_words : (j : ℕ) → j < length steps → IsWord gens lattice (op_at steps j)
  pub unimodular : (j : ℕ) → j < length steps → IsUnimodular (op_at steps j).rot
  pub small : (j : ℕ) → j < length steps → IsSmallMatrix (op_at steps j).rot
  pub in_cell : (j : ℕ) → j < length steps → IsInCell (op_at steps j).shift
  pub forward : (i : ℕ) → i < n → IsListed lattice steps (op_at gens i)
  pub backward : (i : ℕ) → i < n → IsListed lattice steps (seitz_inverse whole (op_at gens i))

-- g and its inverse at the end, with their least translations
pub record AddsSteps (lattice : Lattice) (g : Seitz ℤ) (steps steps' : List Op) : Type 0 where
  pub first : Op
  pub second : Op
  pub added : steps' ≡ (steps ++ first ∷ []) ++ second ∷ []
  pub is_first : IsLeastOp lattice g first
  pub is_second : IsLeastOp lattice (seitz_inverse whole g) second
  pub small : IsSmallMatrix (seitz_inverse whole g).rot

pub record AreHeld (steps : List Op) (lattice : Lattice) (held : List Op) : Type 0 where
  pub some : 0 < length held
  pub few : length held ≤ 48
  pub identity : op_at held 0 ≡ seitz_identity whole
  pub are_words : (i : ℕ) → i < length held → IsWord steps lattice (op_at held i)
  pub small : (i : ℕ) → i < length held → IsSmallMatrix (op_at held i).rot
  pub least : (i : ℕ) → i < length held → IsLeastShift lattice (op_at held i).shift (op_at held i).shift
  pub shaped : (i : ℕ) → i < length held → IsShaped (slice_index_or held i identity_op)
  pub apart : (i j : ℕ) → i < length held → j < length held → (op_at held i).rot ≡ (op_at held j).rot → i ≡ j

pub record IsMet (lattice : Lattice) (held : List Op) (conflict : Bool) (g : Seitz ℤ) : Type 0 where
  pub place : ℕ
  pub below : place < length held
  pub rotation : g.rot ≡ (op_at held place).rot
  pub same : conflict ≡ false → IsLatticeVector lattice (vector_difference g.shift (op_at held place).shift)

pub record IsClosing (steps : List Op) (lattice : Lattice) (held : List Op) (conflict : Bool) (n k : ℕ) : Type 0 where
  pub are : AreHeld steps lattice held
  pub done : (i s : ℕ) → i < n → s < length steps → IsMet lattice held conflict (seitz_product whole (op_at held i) (op_at steps s))
  pub part : (s : ℕ) → s < k → IsMet lattice held conflict (seitz_product whole (op_at held n) (op_at steps s))
  pub extra : conflict ≡ true → HasExtraTranslation steps lattice

abbrev pub IsNew : List Op → Op → Type 0
IsNew held op = (j : ℕ) → j < length held → (op_at held j).rot ≡ (seitz_of op).rot → ⊥

-- held already; a conflict is another translation
pub record IsFound (held held' : List Op) (op : Op) (conflict : Bool) : Type 0 where
  pub unchanged : held' ≡ held
  pub place : ℕ
  pub below : place < length held
  pub rotation : (op_at held place).rot ≡ (seitz_of op).rot
  pub agrees : conflict ≡ false → (op_at held place).shift ≡ (seitz_of op).shift
  pub differs : conflict ≡ true → (op_at held place).shift ≡ (seitz_of op).shift → ⊥

-- held now
pub record IsAdded (held held' : List Op) (op : Op) (conflict : Bool) : Type 0 where
  pub added : held' ≡ held ++ op ∷ []
  pub small : IsSmallMatrix (seitz_of op).rot
  pub room : length held < 48
  pub new : IsNew held op
  pub none : conflict ≡ false

abbrev pub IsHolding : List Op → List Op → Op → Bool → Type 0
IsHolding held held' op conflict = IsFound held held' op conflict ⊎ IsAdded held held' op conflict

abbrev pub IsPastLimits : List Op → Op → Type 0
IsPastLimits held op = (IsSmallMatrix (seitz_of op).rot → ⊥) ⊎ ((48 ≤ length held) × IsNew held op)

-- a rotation takes lattice vectors to lattice vectors
abbrev pub KeepsLattice : Lattice → Matrix ℤ → Type 0
KeepsLattice lattice r = (v : Vector ℤ) → IsLatticeVector lattice v → IsLatticeVector lattice (image_under whole r v)

-- a lattice vector that a rotation takes outside the lattice
pub record LosesLattice (lattice : Lattice) (r : Matrix ℤ) : Type 0 where
  pub vector : Vector ℤ
  pub inside : IsLatticeVector lattice vector
  pub outside : IsLatticeVector lattice (image_under whole r vector) → ⊥

pub record IsClosedList (gens : List Op) (lattice : Lattice) (held : List Op) : Type 0 where
  pub are : AreHeld gens lattice held
  pub complete : (g : Seitz ℤ) → IsWord gens lattice g → IsListed lattice held g
