-- An action for tests: the group of the triangular prism, of order 12, on the plane of the triangle and on two more
-- coordinates.
--
-- prism_product, prism_inverse: the rotations 0, 1, 2, each after an upright mirror 3, 4, 5, and each of these after the
--   level mirror, 6 to 11; the product of a and b is entry b of row a
-- prism_generators: a rotation, an upright mirror, the level mirror
-- prism_entries: the matrices row by row, on two vectors to corners of the triangle, and on two coordinates whose signs
--   the level mirror changes
-- prism: these tables
use Rattle.std.specs.Prelude.{ℕ, ℤ, pos, negsuc, List, [], ◌∷◌}
use Rattle.lattice_tests.specs.Tables.{Tables}

abbrev pub prism_product : List ℕ
prism_product =
    0 ∷ 1 ∷ 2 ∷ 3 ∷ 4 ∷ 5 ∷ 6 ∷ 7 ∷ 8 ∷ 9 ∷ 10 ∷ 11 ∷
    1 ∷ 2 ∷ 0 ∷ 4 ∷ 5 ∷ 3 ∷ 7 ∷ 8 ∷ 6 ∷ 10 ∷ 11 ∷ 9 ∷
    2 ∷ 0 ∷ 1 ∷ 5 ∷ 3 ∷ 4 ∷ 8 ∷ 6 ∷ 7 ∷ 11 ∷ 9 ∷ 10 ∷
    3 ∷ 5 ∷ 4 ∷ 0 ∷ 2 ∷ 1 ∷ 9 ∷ 11 ∷ 10 ∷ 6 ∷ 8 ∷ 7 ∷
    4 ∷ 3 ∷ 5 ∷ 1 ∷ 0 ∷ 2 ∷ 10 ∷ 9 ∷ 11 ∷ 7 ∷ 6 ∷ 8 ∷
    5 ∷ 4 ∷ 3 ∷ 2 ∷ 1 ∷ 0 ∷ 11 ∷ 10 ∷ 9 ∷ 8 ∷ 7 ∷ 6 ∷
    6 ∷ 7 ∷ 8 ∷ 9 ∷ 10 ∷ 11 ∷ 0 ∷ 1 ∷ 2 ∷ 3 ∷ 4 ∷ 5 ∷
    7 ∷ 8 ∷ 6 ∷ 10 ∷ 11 ∷ 9 ∷ 1 ∷ 2 ∷ 0 ∷ 4 ∷ 5 ∷ 3 ∷
    8 ∷ 6 ∷ 7 ∷ 11 ∷ 9 ∷ 10 ∷ 2 ∷ 0 ∷ 1 ∷ 5 ∷ 3 ∷ 4 ∷
    9 ∷ 11 ∷ 10 ∷ 6 ∷ 8 ∷ 7 ∷ 3 ∷ 5 ∷ 4 ∷ 0 ∷ 2 ∷ 1 ∷
    10 ∷ 9 ∷ 11 ∷ 7 ∷ 6 ∷ 8 ∷ 4 ∷ 3 ∷ 5 ∷ 1 ∷ 0 ∷ 2 ∷
    11 ∷ 10 ∷ 9 ∷ 8 ∷ 7 ∷ 6 ∷ 5 ∷ 4 ∷ 3 ∷ 2 ∷ 1 ∷ 0 ∷ []

abbrev pub prism_inverse : List ℕ
prism_inverse = 0 ∷ 2 ∷ 1 ∷ 3 ∷ 4 ∷ 5 ∷ 6 ∷ 8 ∷ 7 ∷ 9 ∷ 10 ∷ 11 ∷ []

abbrev pub prism_generators : List ℕ
prism_generators = 1 ∷ 3 ∷ 6 ∷ []

abbrev pub prism_entries : List ℤ
prism_entries =
    pos 1 ∷ pos 0 ∷ pos 0 ∷ pos 0 ∷ pos 0 ∷ pos 1 ∷ pos 0 ∷ pos 0 ∷
    pos 0 ∷ pos 0 ∷ pos 1 ∷ pos 0 ∷ pos 0 ∷ pos 0 ∷ pos 0 ∷ pos 1 ∷
    pos 0 ∷ negsuc 0 ∷ pos 0 ∷ pos 0 ∷ pos 1 ∷ negsuc 0 ∷ pos 0 ∷ pos 0 ∷
    pos 0 ∷ pos 0 ∷ pos 1 ∷ pos 0 ∷ pos 0 ∷ pos 0 ∷ pos 0 ∷ pos 1 ∷
    negsuc 0 ∷ pos 1 ∷ pos 0 ∷ pos 0 ∷ negsuc 0 ∷ pos 0 ∷ pos 0 ∷ pos 0 ∷
    pos 0 ∷ pos 0 ∷ pos 1 ∷ pos 0 ∷ pos 0 ∷ pos 0 ∷ pos 0 ∷ pos 1 ∷
    pos 0 ∷ pos 1 ∷ pos 0 ∷ pos 0 ∷ pos 1 ∷ pos 0 ∷ pos 0 ∷ pos 0 ∷
    pos 0 ∷ pos 0 ∷ pos 1 ∷ pos 0 ∷ pos 0 ∷ pos 0 ∷ pos 0 ∷ pos 1 ∷
    negsuc 0 ∷ pos 0 ∷ pos 0 ∷ pos 0 ∷ negsuc 0 ∷ pos 1 ∷ pos 0 ∷ pos 0 ∷
    pos 0 ∷ pos 0 ∷ pos 1 ∷ pos 0 ∷ pos 0 ∷ pos 0 ∷ pos 0 ∷ pos 1 ∷
    pos 1 ∷ negsuc 0 ∷ pos 0 ∷ pos 0 ∷ pos 0 ∷ negsuc 0 ∷ pos 0 ∷ pos 0 ∷
    pos 0 ∷ pos 0 ∷ pos 1 ∷ pos 0 ∷ pos 0 ∷ pos 0 ∷ pos 0 ∷ pos 1 ∷
    pos 1 ∷ pos 0 ∷ pos 0 ∷ pos 0 ∷ pos 0 ∷ pos 1 ∷ pos 0 ∷ pos 0 ∷
    pos 0 ∷ pos 0 ∷ negsuc 0 ∷ pos 0 ∷ pos 0 ∷ pos 0 ∷ pos 0 ∷ negsuc 0 ∷
    pos 0 ∷ negsuc 0 ∷ pos 0 ∷ pos 0 ∷ pos 1 ∷ negsuc 0 ∷ pos 0 ∷ pos 0 ∷
    pos 0 ∷ pos 0 ∷ negsuc 0 ∷ pos 0 ∷ pos 0 ∷ pos 0 ∷ pos 0 ∷ negsuc 0 ∷
    negsuc 0 ∷ pos 1 ∷ pos 0 ∷ pos 0 ∷ negsuc 0 ∷ pos 0 ∷ pos 0 ∷ pos 0 ∷
    pos 0 ∷ pos 0 ∷ negsuc 0 ∷ pos 0 ∷ pos 0 ∷ pos 0 ∷ pos 0 ∷ negsuc 0 ∷
    pos 0 ∷ pos 1 ∷ pos 0 ∷ pos 0 ∷ pos 1 ∷ pos 0 ∷ pos 0 ∷ pos 0 ∷
    pos 0 ∷ pos 0 ∷ negsuc 0 ∷ pos 0 ∷ pos 0 ∷ pos 0 ∷ pos 0 ∷ negsuc 0 ∷
    negsuc 0 ∷ pos 0 ∷ pos 0 ∷ pos 0 ∷ negsuc 0 ∷ pos 1 ∷ pos 0 ∷ pos 0 ∷
    pos 0 ∷ pos 0 ∷ negsuc 0 ∷ pos 0 ∷ pos 0 ∷ pos 0 ∷ pos 0 ∷ negsuc 0 ∷
    pos 1 ∷ negsuc 0 ∷ pos 0 ∷ pos 0 ∷ pos 0 ∷ negsuc 0 ∷ pos 0 ∷ pos 0 ∷
    pos 0 ∷ pos 0 ∷ negsuc 0 ∷ pos 0 ∷ pos 0 ∷ pos 0 ∷ pos 0 ∷ negsuc 0 ∷ []

abbrev pub prism : Tables
prism = record { order = 12; dim = 4; product = prism_product; inverse = prism_inverse; generators = prism_generators; entries = prism_entries }
