-- Operations as Seitz operations over the whole numbers, translations in twelfths.
--
-- matrix_of rot, vector_of shift, seitz_of op: what the code's arrays stand for
-- op_of g: the operation with these parts
-- product_of a b: {R|t}{S|s} = {RS | t + R s}, not reduced
-- IsWithin n x: x is at most n in absolute value
-- IsSmallRotation rot: entries from -3 to 3
-- IsShiftWithin n shift: each coordinate is at most n in absolute value
-- IsSmallMatrix a: the same of a matrix
-- IsUnimodular a: the determinant of a is 1 or -1
-- inverse_of op: {R^-1 | -R^-1 t}, where R is unimodular
-- identity_op: {E|0}
use Rattle.std.specs.Prelude.{◌≡◌, ℕ, ℤ, pos, ◌*ℤ◌, List, [], ◌∷◌, slice_index_or}
use Rattle.space_ops.specs.declared.op.Op.{Op}
use Rattle.algebra.specs.Whole.{whole}
pub use Rattle.iso_text.specs.WordRanges.{IsWithin}
use Rattle.space_ops.specs.Matrix.{Matrix, Vector, row_times, minor, determinant}
use Rattle.space_ops.specs.Seitz.{Seitz, seitz_product, seitz_inverse, seitz_identity}

abbrev pub number_at : List ℤ → ℕ → ℤ
number_at row i = slice_index_or row i (pos 0)

abbrev pub row_at : List (List ℤ) → ℕ → List ℤ
row_at rot i = slice_index_or rot i []

-- the column with these coordinates
abbrev pub vector_of : List ℤ → Vector ℤ
vector_of shift = record { x = number_at shift 0; y = number_at shift 1; z = number_at shift 2 }

-- the matrix with these rows
abbrev pub matrix_of : List (List ℤ) → Matrix ℤ
matrix_of rot = record {
  r00 = number_at (row_at rot 0) 0;
  r01 = number_at (row_at rot 0) 1;
  r02 = number_at (row_at rot 0) 2;
  r10 = number_at (row_at rot 1) 0;
  r11 = number_at (row_at rot 1) 1;
  r12 = number_at (row_at rot 1) 2;
  r20 = number_at (row_at rot 2) 0;
  r21 = number_at (row_at rot 2) 1;
  r22 = number_at (row_at rot 2) 2;
}

abbrev pub seitz_of : Op → Seitz ℤ
seitz_of op = record { rot = matrix_of op.rot; shift = vector_of op.shift }

-- the coordinates in order
abbrev pub shift_of : Vector ℤ → List ℤ
shift_of v = v.x ∷ v.y ∷ v.z ∷ []

-- the rows in order
abbrev pub rows_of : Matrix ℤ → List (List ℤ)
rows_of a = (a.r00 ∷ a.r01 ∷ a.r02 ∷ []) ∷ (a.r10 ∷ a.r11 ∷ a.r12 ∷ []) ∷ (a.r20 ∷ a.r21 ∷ a.r22 ∷ []) ∷ []

abbrev pub op_of : Seitz ℤ → Op
op_of g = record { rot = rows_of g.rot; shift = shift_of g.shift }

-- a row times a matrix
abbrev pub product_row : List ℤ → List (List ℤ) → List ℤ
product_row row rot =
    let a = matrix_of rot in
    let times = row_times whole (number_at row 0) (number_at row 1) (number_at row 2) in
    times a.r00 a.r10 a.r20 ∷ times a.r01 a.r11 a.r21 ∷ times a.r02 a.r12 a.r22 ∷ []

-- the cross product of two rows
abbrev pub cross_product : List ℤ → List ℤ → List ℤ
cross_product a b =
    let x = number_at a 0 in
    let y = number_at a 1 in
    let z = number_at a 2 in
    let x' = number_at b 0 in
    let y' = number_at b 1 in
    let z' = number_at b 2 in
    minor whole y z y' z' ∷ minor whole z x z' x' ∷ minor whole x y x' y' ∷ []

-- {R|t}{S|s} = {RS | t + R s}
unfoldable pub product_of : Op → Op → Op
product_of a b = op_of (seitz_product whole (seitz_of a) (seitz_of b))

-- each coordinate is from -n to n
abbrev pub IsShiftWithin : ℕ → List ℤ → Type 0
IsShiftWithin n shift = IsWithin n (number_at shift 0) × IsWithin n (number_at shift 1) × IsWithin n (number_at shift 2)

-- each entry is at most n in absolute value
abbrev pub IsRotationWithin : ℕ → List (List ℤ) → Type 0
IsRotationWithin n rot = IsShiftWithin n (row_at rot 0) × IsShiftWithin n (row_at rot 1) × IsShiftWithin n (row_at rot 2)

-- each entry is from -3 to 3
abbrev pub IsSmallMatrix : Matrix ℤ → Type 0
IsSmallMatrix a =
    (IsWithin 3 a.r00 × IsWithin 3 a.r01 × IsWithin 3 a.r02) × (IsWithin 3 a.r10 × IsWithin 3 a.r11 × IsWithin 3 a.r12)
    × (IsWithin 3 a.r20 × IsWithin 3 a.r21 × IsWithin 3 a.r22)

abbrev pub IsSmallRotation : List (List ℤ) → Type 0
IsSmallRotation rot = IsRotationWithin 3 rot

-- the determinant is 1 or -1
abbrev pub IsUnimodular : Matrix ℤ → Type 0
IsUnimodular a = determinant whole a *ℤ determinant whole a ≡ pos 1

-- {R^-1 | -R^-1 t}
unfoldable pub inverse_of : Op → Op
inverse_of op = op_of (seitz_inverse whole (seitz_of op))

-- {E|0}
abbrev pub identity_op : Op
identity_op = op_of (seitz_identity whole)
