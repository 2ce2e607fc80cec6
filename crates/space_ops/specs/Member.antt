-- Members of a listed group: the listed operation of their rotation, and what they have more.
--
-- IsMemberOf p g: g is a word over the generators and the lattice translations
-- rotation_of p g: the number of the rotation of g
-- rest_of p g: what the translation of g has more than the listed one
-- IsListedMember p g: g is {E|n} after the listed operation of its rotation, n a lattice vector
-- AreMembers p: members are closed under products and inverses, and numbers of rotations multiply as the rotations
use Rattle.std.specs.Prelude.{◌≡◌, ℕ, ◌<◌, ℤ, length}
use Rattle.algebra.specs.Whole.{whole}
use Rattle.space_ops.specs.Matrix.{Vector}
use Rattle.space_ops.specs.Seitz.{Seitz, seitz_product, seitz_inverse, seitz_identity}
use Rattle.space_ops.specs.Words.{op_at, vector_difference, IsLatticeVector, IsWord}
use Rattle.space_ops.specs.WordLaws.{translation}
use Rattle.space_ops.specs.Group.{Parent}
use Rattle.space_ops.specs.GroupLaws.{place_of, rotation_group}

-- a word over the generators and the lattice translations
abbrev pub IsMemberOf : Parent → Seitz ℤ → Type 0
IsMemberOf p g = IsWord p.generators p.lattice g

-- the number of the rotation
abbrev pub rotation_of : Parent → Seitz ℤ → ℕ
rotation_of p g = place_of p.ops g.rot

-- what the translation has more than the listed one
abbrev pub rest_of : Parent → Seitz ℤ → Vector ℤ
rest_of p g = vector_difference g.shift (op_at p.ops (rotation_of p g)).shift

-- {E|n} after the listed operation of its rotation
pub record IsListedMember (p : Parent) (g : Seitz ℤ) : Type 0 where
  pub below : rotation_of p g < length p.ops
  pub rotation : (op_at p.ops (rotation_of p g)).rot ≡ g.rot
  pub rest : IsLatticeVector p.lattice (rest_of p g)
  pub split : g ≡ seitz_product whole (translation (rest_of p g)) (op_at p.ops (rotation_of p g))

-- closed under products and inverses, as the numbers of their rotations are
pub record AreMembers (p : Parent) : Type 0 where
  pub identity : IsMemberOf p (seitz_identity whole)
  pub product : (g k : Seitz ℤ) → IsMemberOf p g → IsMemberOf p k → IsMemberOf p (seitz_product whole g k)
  pub inverse : (g : Seitz ℤ) → IsMemberOf p g → IsMemberOf p (seitz_inverse whole g)
  pub identity-rotation : rotation_of p (seitz_identity whole) ≡ 0
  pub product-rotation : (g k : Seitz ℤ) → IsMemberOf p g → IsMemberOf p k
      → rotation_of p (seitz_product whole g k) ≡ (rotation_group p.ops).product (rotation_of p g) (rotation_of p k)
  pub inverse-rotation : (g : Seitz ℤ) → IsMemberOf p g → rotation_of p (seitz_inverse whole g) ≡ (rotation_group p.ops).inverse (rotation_of p g)
