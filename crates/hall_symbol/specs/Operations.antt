-- The operations of the generators, seen from a shifted origin.
--
-- signed negated rot: R or -R
-- op_at_origin v generator: {R | t + v - R v}, its translation modulo 1
-- inversion: {-E|0}
use Rattle.std.specs.Prelude.{ℕ, ◌+◌, ℤ, pos, ◌+ℤ◌, ◌-ℤ◌, neg_ℤ, Bool, true, false, List, [], ◌∷◌, slice_index_or}
use Rattle.std.specs.Int.{int_rem_euclid}
use Rattle.space_ops.specs.declared.op.Op.{Op}
use Rattle.space_ops.specs.Matrix.{row_times}
use Rattle.space_ops.specs.Op.{number_at, row_at}
use Rattle.algebra.specs.Whole.{whole}
use Rattle.hall_symbol.specs.declared.generator.Generator.{Generator}
use Rattle.hall_symbol.specs.declared.rotation.Rotation.TheVariants.{One}
use Rattle.hall_symbol.specs.Rotations.{rotation_rows}

-- a row with the opposite signs
abbrev pub opposite_row : List ℤ → List ℤ
opposite_row row = neg_ℤ (number_at row 0) ∷ neg_ℤ (number_at row 1) ∷ neg_ℤ (number_at row 2) ∷ []

-- the rows with the opposite signs, where a `-` stands
abbrev pub signed : Bool → List (List ℤ) → List (List ℤ)
signed true rot = opposite_row (row_at rot 0) ∷ opposite_row (row_at rot 1) ∷ opposite_row (row_at rot 2) ∷ []
signed false rot = rot

-- the image of a vector along one axis: a row of R times the vector
abbrev pub image_along : List ℤ → List ℤ → ℤ
image_along row v = row_times whole (number_at row 0) (number_at row 1) (number_at row 2) (number_at v 0) (number_at v 1) (number_at v 2)

-- t + v - R v along one axis, from 0 to 11 twelfths
abbrev pub coordinate_at : List ℤ → ℕ → ℤ → List ℤ → ℤ
coordinate_at row t along v = int_rem_euclid ((pos t +ℤ along) -ℤ image_along row v) (pos 12)

-- the translation of the digit and the letters along one axis
abbrev pub shift_along : Generator → ℕ → ℕ
shift_along g i = slice_index_or g.screw i 0 + slice_index_or g.letters i 0

-- the rows of the generator's rotation
abbrev pub generator_rows : Generator → List (List ℤ)
generator_rows g = signed g.negated (rotation_rows g.rotation)

-- {R | t + v - R v}
abbrev pub op_at_origin : List ℤ → Generator → Op
op_at_origin v g = record {
  rot = generator_rows g;
  shift = coordinate_at (row_at (generator_rows g) 0) (shift_along g 0) (number_at v 0) v
      ∷ coordinate_at (row_at (generator_rows g) 1) (shift_along g 1) (number_at v 1) v
      ∷ coordinate_at (row_at (generator_rows g) 2) (shift_along g 2) (number_at v 2) v
      ∷ [];
}

-- {-E|0}
abbrev pub inversion : Generator
inversion = record { rotation = One; negated = true; screw = 0 ∷ 0 ∷ 0 ∷ []; letters = 0 ∷ 0 ∷ 0 ∷ [] }

-- the inversion, where a `-` stands before the lattice
abbrev pub inversion_of : Bool → List Generator
inversion_of true = inversion ∷ []
inversion_of false = []
