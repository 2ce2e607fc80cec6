-- The lattices of the Hall symbols, by their letters and by their centring vectors in twelfths of a
-- cell edge.
--
-- twelfths x y z: three numbers of twelfths
-- centrings_of lattice: the centring vectors in the table's order
-- letter_of lattice: the byte of its letter
-- lattices: all of them
-- lattice_of letter: the lattice with this letter, if there is one
use Rattle.std.specs.Prelude.{ℕ, ℤ, pos, List, [], ◌∷◌, Option, Some, None, ◌==◌, if◌then◌else◌}
use Rattle.space_ops.specs.declared.lattice.Lattice.{Lattice}
use Rattle.space_ops.specs.declared.lattice.Lattice.TheVariants.{P, A, B, C, I, R, F}

-- three numbers of twelfths
abbrev pub twelfths : ℕ → ℕ → ℕ → List ℤ
twelfths x y z = pos x ∷ pos y ∷ pos z ∷ []

abbrev pub centrings_of : Lattice → List (List ℤ)
centrings_of P = twelfths 0 0 0 ∷ []
centrings_of A = twelfths 0 0 0 ∷ twelfths 0 6 6 ∷ []
centrings_of B = twelfths 0 0 0 ∷ twelfths 6 0 6 ∷ []
centrings_of C = twelfths 0 0 0 ∷ twelfths 6 6 0 ∷ []
centrings_of I = twelfths 0 0 0 ∷ twelfths 6 6 6 ∷ []
centrings_of R = twelfths 0 0 0 ∷ twelfths 8 4 4 ∷ twelfths 4 8 8 ∷ []
centrings_of F = twelfths 0 0 0 ∷ twelfths 0 6 6 ∷ twelfths 6 0 6 ∷ twelfths 6 6 0 ∷ []

-- the byte of the letter
abbrev pub letter_of : Lattice → ℕ
letter_of P = 80
letter_of A = 65
letter_of B = 66
letter_of C = 67
letter_of I = 73
letter_of R = 82
letter_of F = 70

abbrev pub lattices : List Lattice
lattices = P ∷ A ∷ B ∷ C ∷ I ∷ R ∷ F ∷ []

-- the first of the list with this letter
abbrev pub lattice_among : List Lattice → ℕ → Option Lattice
lattice_among [] letter = None
lattice_among (l ∷ ls) letter = if letter == letter_of l then Some l else lattice_among ls letter

-- the lattice with this letter
abbrev pub lattice_of : ℕ → Option Lattice
lattice_of = lattice_among lattices
