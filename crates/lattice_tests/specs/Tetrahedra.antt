-- An action for tests: the rotations of the tetrahedron, of order 12, on vectors.
--
-- tetrahedron_product, tetrahedron_inverse: the identity and the half turns about the axes, 0 to 3, each of these after a
--   third of a turn, 4 to 7, and after two, 8 to 11; the product of a and b is entry b of row a
-- tetrahedron_generators: half turns about the first and the second axis, a third of a turn
-- tetrahedron_entries: the matrices row by row, on vectors
-- tetrahedron: these tables
use Rattle.std.specs.Prelude.{ℕ, ℤ, pos, negsuc, List, [], ◌∷◌}
use Rattle.lattice_tests.specs.Tables.{Tables}

abbrev pub tetrahedron_product : List ℕ
tetrahedron_product =
    0 ∷ 1 ∷ 2 ∷ 3 ∷ 4 ∷ 5 ∷ 6 ∷ 7 ∷ 8 ∷ 9 ∷ 10 ∷ 11 ∷
    1 ∷ 0 ∷ 3 ∷ 2 ∷ 5 ∷ 4 ∷ 7 ∷ 6 ∷ 9 ∷ 8 ∷ 11 ∷ 10 ∷
    2 ∷ 3 ∷ 0 ∷ 1 ∷ 6 ∷ 7 ∷ 4 ∷ 5 ∷ 10 ∷ 11 ∷ 8 ∷ 9 ∷
    3 ∷ 2 ∷ 1 ∷ 0 ∷ 7 ∷ 6 ∷ 5 ∷ 4 ∷ 11 ∷ 10 ∷ 9 ∷ 8 ∷
    4 ∷ 6 ∷ 7 ∷ 5 ∷ 8 ∷ 10 ∷ 11 ∷ 9 ∷ 0 ∷ 2 ∷ 3 ∷ 1 ∷
    5 ∷ 7 ∷ 6 ∷ 4 ∷ 9 ∷ 11 ∷ 10 ∷ 8 ∷ 1 ∷ 3 ∷ 2 ∷ 0 ∷
    6 ∷ 4 ∷ 5 ∷ 7 ∷ 10 ∷ 8 ∷ 9 ∷ 11 ∷ 2 ∷ 0 ∷ 1 ∷ 3 ∷
    7 ∷ 5 ∷ 4 ∷ 6 ∷ 11 ∷ 9 ∷ 8 ∷ 10 ∷ 3 ∷ 1 ∷ 0 ∷ 2 ∷
    8 ∷ 11 ∷ 9 ∷ 10 ∷ 0 ∷ 3 ∷ 1 ∷ 2 ∷ 4 ∷ 7 ∷ 5 ∷ 6 ∷
    9 ∷ 10 ∷ 8 ∷ 11 ∷ 1 ∷ 2 ∷ 0 ∷ 3 ∷ 5 ∷ 6 ∷ 4 ∷ 7 ∷
    10 ∷ 9 ∷ 11 ∷ 8 ∷ 2 ∷ 1 ∷ 3 ∷ 0 ∷ 6 ∷ 5 ∷ 7 ∷ 4 ∷
    11 ∷ 8 ∷ 10 ∷ 9 ∷ 3 ∷ 0 ∷ 2 ∷ 1 ∷ 7 ∷ 4 ∷ 6 ∷ 5 ∷ []

abbrev pub tetrahedron_inverse : List ℕ
tetrahedron_inverse = 0 ∷ 1 ∷ 2 ∷ 3 ∷ 8 ∷ 11 ∷ 9 ∷ 10 ∷ 4 ∷ 6 ∷ 7 ∷ 5 ∷ []

abbrev pub tetrahedron_generators : List ℕ
tetrahedron_generators = 1 ∷ 2 ∷ 4 ∷ []

abbrev pub tetrahedron_entries : List ℤ
tetrahedron_entries =
    pos 1 ∷ pos 0 ∷ pos 0 ∷ pos 0 ∷ pos 1 ∷ pos 0 ∷ pos 0 ∷ pos 0 ∷ pos 1 ∷
    pos 1 ∷ pos 0 ∷ pos 0 ∷ pos 0 ∷ negsuc 0 ∷ pos 0 ∷ pos 0 ∷ pos 0 ∷ negsuc 0 ∷
    negsuc 0 ∷ pos 0 ∷ pos 0 ∷ pos 0 ∷ pos 1 ∷ pos 0 ∷ pos 0 ∷ pos 0 ∷ negsuc 0 ∷
    negsuc 0 ∷ pos 0 ∷ pos 0 ∷ pos 0 ∷ negsuc 0 ∷ pos 0 ∷ pos 0 ∷ pos 0 ∷ pos 1 ∷
    pos 0 ∷ pos 0 ∷ pos 1 ∷ pos 1 ∷ pos 0 ∷ pos 0 ∷ pos 0 ∷ pos 1 ∷ pos 0 ∷
    pos 0 ∷ pos 0 ∷ pos 1 ∷ negsuc 0 ∷ pos 0 ∷ pos 0 ∷ pos 0 ∷ negsuc 0 ∷ pos 0 ∷
    pos 0 ∷ pos 0 ∷ negsuc 0 ∷ pos 1 ∷ pos 0 ∷ pos 0 ∷ pos 0 ∷ negsuc 0 ∷ pos 0 ∷
    pos 0 ∷ pos 0 ∷ negsuc 0 ∷ negsuc 0 ∷ pos 0 ∷ pos 0 ∷ pos 0 ∷ pos 1 ∷ pos 0 ∷
    pos 0 ∷ pos 1 ∷ pos 0 ∷ pos 0 ∷ pos 0 ∷ pos 1 ∷ pos 1 ∷ pos 0 ∷ pos 0 ∷
    pos 0 ∷ pos 1 ∷ pos 0 ∷ pos 0 ∷ pos 0 ∷ negsuc 0 ∷ negsuc 0 ∷ pos 0 ∷ pos 0 ∷
    pos 0 ∷ negsuc 0 ∷ pos 0 ∷ pos 0 ∷ pos 0 ∷ pos 1 ∷ negsuc 0 ∷ pos 0 ∷ pos 0 ∷
    pos 0 ∷ negsuc 0 ∷ pos 0 ∷ pos 0 ∷ pos 0 ∷ negsuc 0 ∷ pos 1 ∷ pos 0 ∷ pos 0 ∷ []

abbrev pub tetrahedron : Tables
tetrahedron = record { order = 12; dim = 3; product = tetrahedron_product; inverse = tetrahedron_inverse; generators = tetrahedron_generators; entries = tetrahedron_entries }
