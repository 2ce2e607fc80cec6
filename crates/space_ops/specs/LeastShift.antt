-- The least translation of a rotation, modulo the lattice.
--
-- vector_cmp v w: translations in order of their first coordinates that differ
-- IsInCell v: each coordinate is from 0 to 11 twelfths
-- IsLeastShift lattice t r: r is the least translation in the cell that differs from t by a lattice vector
-- reduced_vector v, reduced_sum t c: v, and t + c, with each coordinate reduced to the cell
-- IsLeastOp lattice g op: op has the rotation of g and its least translation
use Rattle.std.specs.Prelude.{◌≡◌, ℕ, ◌<◌, ℤ, pos, ◌+ℤ◌, ◌≤ℤ◌, List, [], ◌∷◌, length, slice_index_or}
use Rattle.std.specs.Int.{int_rem_euclid}
use Rattle.std.specs.Ordering.{int_cmp, ord_min}
use Rattle.std.specs.Cmp.Lexicographic.{slice_cmp}
use Rattle.std.specs.declared.cmp.Ordering.{Ordering}
use Rattle.std.specs.declared.cmp.Ordering.TheVariants.{Greater}
use Rattle.space_ops.specs.declared.op.Op.{Op}
use Rattle.space_ops.specs.declared.lattice.Lattice.{Lattice}
use Rattle.space_ops.specs.Matrix.{Vector}
use Rattle.space_ops.specs.Seitz.{Seitz}
use Rattle.space_ops.specs.Op.{number_at, shift_of, vector_of, rows_of, matrix_of, seitz_of, op_of}
use Rattle.space_ops.specs.Words.{vector_difference, IsLatticeVector}

abbrev pub vector_cmp : Vector ℤ → Vector ℤ → Ordering
vector_cmp v w = slice_cmp int_cmp (shift_of v) (shift_of w)

-- from 0 to 11
abbrev pub IsTwelfth : ℤ → Type 0
IsTwelfth x = (pos 0 ≤ℤ x) × (x ≤ℤ pos 11)

abbrev pub IsInCell : Vector ℤ → Type 0
IsInCell v = IsTwelfth v.x × IsTwelfth v.y × IsTwelfth v.z

pub record IsLeastShift (lattice : Lattice) (t r : Vector ℤ) : Type 0 where
  pub in_cell : IsInCell r
  pub same : IsLatticeVector lattice (vector_difference r t)
  pub least : (s : Vector ℤ) → IsInCell s → IsLatticeVector lattice (vector_difference s t) → vector_cmp r s ≡ Greater → ⊥

-- the sum, each coordinate reduced to the cell
abbrev pub reduced_coordinate : List ℤ → List ℤ → ℕ → ℤ
reduced_coordinate t c i = int_rem_euclid (number_at t i +ℤ number_at c i) (pos 12)

abbrev pub reduced_sum : List ℤ → List ℤ → List ℤ
reduced_sum t c = reduced_coordinate t c 0 ∷ reduced_coordinate t c 1 ∷ reduced_coordinate t c 2 ∷ []

-- each coordinate reduced to the cell
abbrev pub reduced_vector : Vector ℤ → Vector ℤ
reduced_vector v = record { x = int_rem_euclid v.x (pos 12); y = int_rem_euclid v.y (pos 12); z = int_rem_euclid v.z (pos 12) }

-- the first of two translations in their order
abbrev pub earlier_of : List ℤ → List ℤ → List ℤ
earlier_of a b = ord_min (slice_cmp int_cmp) a b

-- r is t + c for one of the vectors c, reduced to the cell, and none of the first n of these comes before it
pub record IsFirstOfReduced (t : List ℤ) (cs : List (List ℤ)) (n : ℕ) (r : List ℤ) : Type 0 where
  pub place : ℕ
  pub below : place < length cs
  pub is : r ≡ reduced_sum t (slice_index_or cs place [])
  pub first : (i : ℕ) → i < n → slice_cmp int_cmp r (reduced_sum t (slice_index_or cs i [])) ≡ Greater → ⊥

-- three coordinates, the least translation
pub record IsLeastArray (lattice : Lattice) (t r : List ℤ) : Type 0 where
  pub translation : IsLeastShift lattice (vector_of t) (vector_of r)
  pub shaped : r ≡ shift_of (vector_of r)

-- three rows of three entries, and three coordinates
abbrev pub IsShaped : Op → Type 0
IsShaped op = op ≡ op_of (seitz_of op)

abbrev pub HasRows : List (List ℤ) → Type 0
HasRows rot = rot ≡ rows_of (matrix_of rot)

pub record IsLeastOp (lattice : Lattice) (g : Seitz ℤ) (op : Op) : Type 0 where
  pub rotation : (seitz_of op).rot ≡ g.rot
  pub translation : IsLeastShift lattice g.shift (seitz_of op).shift
