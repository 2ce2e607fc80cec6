-- Numbers at the atoms of an orbit, and how the elements of a group move them.
--
-- AtomSpace: a group that permutes atoms, with some numbers at each atom and a matrix of whole numbers for each element
-- size_of s: how many numbers there are in all; number a of atom i stands in column i c + a, for c numbers an atom
-- matrix_of f s q: M(q), which takes the numbers of an atom, turned by the matrix of q, to the image of the atom
-- IsAtomSpace s: the group permutes the atoms, takes the first to each, and the matrices multiply as it does
-- matrix_entry m a b: entry (a, b) of a 3 by 3 matrix
-- Quantity: what each atom has, some numbers, which a rotation turns by a matrix
-- IsQuantity k: the matrices multiply as the rotations do
-- space_of g o k: the numbers at the atoms of an orbit
-- polar_vector, displacements g o: along the cell edges; a rotation turns a displacement by itself
-- IsOrbit g o: the orbit of some atom
use Rattle.std.specs.Prelude.{◌≡◌, ℕ, suc, zero, ◌<◌, ◌≤◌, ◌*◌, ◌+ℤ◌, ◌*ℤ◌, ℤ, pos, length, nat_eq, if◌then◌else◌}
use Rattle.algebra.specs.NumberedGroup.{Group, IsGroup}
use Rattle.algebra.specs.Sums as sums
use Rattle.algebra.specs.Whole.{whole}
use Rattle.cyclo24.specs.FieldOn.{FieldOn}
use Rattle.cyclo24.specs.Numerals.{of_whole}
use Rattle.lin_alg.specs.Matrices.{induced}
use Rattle.space_ops.specs.Matrix.{Matrix, matrix_times, unit_matrix}
use Rattle.super_group.specs.Quotient.{SupercellGroup, element_of, quotient_group}
use Rattle.iso_text.specs.declared.sections.AtomText.{AtomText}
use Rattle.wyckoff.specs.Orbit.{OrbitView, image_of, IsOrbitOf}
use Rattle.wyckoff.specs.Permutations.{IsPermutationAction}

pub record AtomSpace : Type 0 where
  pub group : Group
  pub atoms : ℕ
  -- image q i: the atom to which element q takes atom i
  pub image : ℕ → ℕ → ℕ
  -- how many numbers an atom has
  pub each : ℕ
  -- turn q a b: entry (a, b) of the matrix of element q
  pub turn : ℕ → ℕ → ℕ → ℤ

abbrev pub size_of : AtomSpace → ℕ
size_of s = s.atoms * s.each

-- M(q): column (i, b) goes to the rows (image of i, a), with the entries (a, b) of the matrix of q
abbrev pub matrix_of : {K : Type 0} → FieldOn K → AtomSpace → ℕ → ℕ → ℕ → K
matrix_of f s q = induced f s.each (s.image q) (λ i a b. of_whole f (s.turn q a b))

pub record IsAtomSpace (s : AtomSpace) : Type 0 where
  pub group : IsGroup s.group
  pub images : IsPermutationAction s.group s.atoms s.image
  pub some : 0 < s.atoms
  pub reached : (i : ℕ) → i < s.atoms → (q : ℕ) × (q < s.group.order) × (s.image q 0 ≡ i)
  pub unit : (a b : ℕ) → a < s.each → b < s.each → s.turn 0 a b ≡ (if nat_eq a b then pos 1 else pos 0)
  pub product : (p q a b : ℕ) → p < s.group.order → q < s.group.order → a < s.each → b < s.each
      → s.turn (s.group.product p q) a b ≡ sums.total (pos 0) ◌+ℤ◌ s.each (λ c. s.turn p a c *ℤ s.turn q c b)

abbrev pub among_three : ℤ → ℤ → ℤ → ℕ → ℤ
among_three x y z zero = x
among_three x y z (suc zero) = y
among_three x y z (suc (suc k)) = z

-- entry (a, b) of a 3 by 3 matrix
abbrev pub matrix_entry : Matrix ℤ → ℕ → ℕ → ℤ
matrix_entry m zero b = among_three m.r00 m.r01 m.r02 b
matrix_entry m (suc zero) b = among_three m.r10 m.r11 m.r12 b
matrix_entry m (suc (suc a)) b = among_three m.r20 m.r21 m.r22 b

-- of the matrix the first rows and columns count, as many as an atom has numbers
pub record Quantity : Type 0 where
  pub each : ℕ
  pub matrix : Matrix ℤ → Matrix ℤ

pub record IsQuantity (k : Quantity) : Type 0 where
  pub few : k.each ≤ 3
  pub unit : (a b : ℕ) → a < k.each → b < k.each → matrix_entry (k.matrix (unit_matrix whole)) a b ≡ (if nat_eq a b then pos 1 else pos 0)
  pub product : (m n : Matrix ℤ) (a b : ℕ) → a < k.each → b < k.each
      → matrix_entry (k.matrix (matrix_times whole m n)) a b ≡ sums.total (pos 0) ◌+ℤ◌ k.each (λ c. matrix_entry (k.matrix m) a c *ℤ matrix_entry (k.matrix n) c b)

-- an element takes the numbers of an atom, turned by its rotation, to the image of the atom
abbrev pub space_of : SupercellGroup → OrbitView → Quantity → AtomSpace
space_of g o k = record {
  group = quotient_group g;
  atoms = length o.places;
  image = image_of o;
  each = k.each;
  turn = λ q a b. matrix_entry (k.matrix (element_of g q).rot) a b;
}

abbrev pub polar_vector : Quantity
polar_vector = record { each = 3; matrix = λ m. m }

abbrev pub displacements : SupercellGroup → OrbitView → AtomSpace
displacements g o = space_of g o polar_vector

pub record IsOrbit (g : SupercellGroup) (o : OrbitView) : Type 0 where
  pub atom : AtomText
  pub of : IsOrbitOf g atom o
