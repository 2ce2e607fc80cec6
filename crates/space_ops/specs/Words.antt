-- Words over generators, their inverses and lattice translations.
--
-- op_at ops i: operation i of a list
-- IsLatticeVector lattice v: v is a centring vector and whole cell edges
-- IsLatticeTranslation lattice g: g is {E|v} with a lattice vector v
-- IsSameUpToLattice lattice g h: one rotation, and translations that differ by a lattice vector
-- IsStep gens lattice s: s is a generator, the inverse of one, or a lattice translation
-- word_value w: the product of a word's steps
-- IsWord gens lattice g: g is the value of a word
-- IsWordRotation gens lattice r: r is the rotation of a word's value
-- HasTooManyRotations gens lattice: the words have more than 48 rotations, or one with an entry outside -3 to 3
-- HasExtraTranslation gens lattice: a word is a pure translation outside the lattice
use Rattle.std.specs.Prelude.{◌≡◌, ℕ, ◌<◌, ◌≤◌, ◌⊎◌, ℤ, pos, ◌*ℤ◌, List, [], ◌∷◌, length, slice_index_or}
use Rattle.space_ops.specs.declared.op.Op.{Op}
use Rattle.space_ops.specs.declared.lattice.Lattice.{Lattice}
use Rattle.algebra.specs.Whole.{whole}
use Rattle.space_ops.specs.Matrix.{Matrix, Vector, unit_matrix, vector_sum, minus_vector}
use Rattle.space_ops.specs.Seitz.{Seitz, seitz_product, seitz_inverse, seitz_identity}
use Rattle.space_ops.specs.Op.{seitz_of, identity_op, vector_of, IsSmallMatrix}
use Rattle.space_ops.specs.Lattice.{centrings_of}

abbrev pub op_at : List Op → ℕ → Seitz ℤ
op_at ops i = seitz_of (slice_index_or ops i identity_op)

-- the centring vector with this number
abbrev pub centring_at : Lattice → ℕ → Vector ℤ
centring_at lattice i = vector_of (slice_index_or (centrings_of lattice) i [])

-- so many cell edges, in twelfths
abbrev pub cell_edges : Vector ℤ → Vector ℤ
cell_edges u = record { x = pos 12 *ℤ u.x; y = pos 12 *ℤ u.y; z = pos 12 *ℤ u.z }

-- a centring vector and whole cell edges
pub record IsLatticeVector (lattice : Lattice) (v : Vector ℤ) : Type 0 where
  pub centring : ℕ
  pub listed : centring < length (centrings_of lattice)
  pub edges : Vector ℤ
  pub is : v ≡ vector_sum whole (centring_at lattice centring) (cell_edges edges)

abbrev pub IsLatticeTranslation : Lattice → Seitz ℤ → Type 0
IsLatticeTranslation lattice g = (g.rot ≡ unit_matrix whole) × IsLatticeVector lattice g.shift

abbrev pub vector_difference : Vector ℤ → Vector ℤ → Vector ℤ
vector_difference v w = vector_sum whole v (minus_vector whole w)

-- g is a lattice translation after h
pub record IsSameUpToLattice (lattice : Lattice) (g h : Seitz ℤ) : Type 0 where
  pub rotation : g.rot ≡ h.rot
  pub translation : IsLatticeVector lattice (vector_difference g.shift h.shift)

abbrev pub IsGenerator : List Op → Seitz ℤ → Type 0
IsGenerator gens s = (i : ℕ) × (i < length gens) × (s ≡ op_at gens i)

abbrev pub IsInverseOfGenerator : List Op → Seitz ℤ → Type 0
IsInverseOfGenerator gens s = (i : ℕ) × (i < length gens) × (s ≡ seitz_inverse whole (op_at gens i))

abbrev pub IsStep : List Op → Lattice → Seitz ℤ → Type 0
IsStep gens lattice s = IsGenerator gens s ⊎ (IsInverseOfGenerator gens s ⊎ IsLatticeTranslation lattice s)

abbrev pub AreSteps : List Op → Lattice → List (Seitz ℤ) → Type 0
AreSteps gens lattice [] = Unit {0}
AreSteps gens lattice (s ∷ w) = IsStep gens lattice s × AreSteps gens lattice w

abbrev pub word_value : List (Seitz ℤ) → Seitz ℤ
word_value [] = seitz_identity whole
word_value (s ∷ w) = seitz_product whole s (word_value w)

pub record IsWord (gens : List Op) (lattice : Lattice) (g : Seitz ℤ) : Type 0 where
  pub word : List (Seitz ℤ)
  pub steps : AreSteps gens lattice word
  pub value : word_value word ≡ g

pub record IsWordRotation (gens : List Op) (lattice : Lattice) (r : Matrix ℤ) : Type 0 where
  pub element : Seitz ℤ
  pub is_word : IsWord gens lattice element
  pub rotation : element.rot ≡ r

-- rotations 0 to n of words, no two the same
pub record HasMoreRotations (gens : List Op) (lattice : Lattice) (n : ℕ) : Type 0 where
  pub number : ℕ → Matrix ℤ
  pub are_words : (i : ℕ) → i ≤ n → IsWordRotation gens lattice (number i)
  pub apart : (i j : ℕ) → i ≤ n → j ≤ n → number i ≡ number j → i ≡ j

-- a rotation of a word with an entry outside -3 to 3
pub record HasLargeRotation (gens : List Op) (lattice : Lattice) : Type 0 where
  pub large : Matrix ℤ
  pub is_word : IsWordRotation gens lattice large
  pub not_small : IsSmallMatrix large → ⊥

abbrev pub HasTooManyRotations : List Op → Lattice → Type 0
HasTooManyRotations gens lattice = HasMoreRotations gens lattice 48 ⊎ HasLargeRotation gens lattice

-- a word that is a pure translation outside the lattice
pub record HasExtraTranslation (gens : List Op) (lattice : Lattice) : Type 0 where
  pub extra : Seitz ℤ
  pub is_word : IsWord gens lattice extra
  pub is_pure : extra.rot ≡ unit_matrix whole
  pub outside : IsLatticeVector lattice extra.shift → ⊥
