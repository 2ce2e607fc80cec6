-- The action of the octahedron's group is lawful: its tests compute.
--
-- octahedron_lawful: the laws of an action
use Rattle.std.proofs.Common.{ℕ, [], ◌∷◌, get_or, refl}
use Rattle.cyclo24.specs.ExactField.{ExactField}
use Rattle.lin_alg.specs.Action.{IsAction}
use Rattle.lattice_tests.specs.Octahedra.{octahedron}
use Rattle.lattice_tests.specs.Tables.{AreLawful, action_of}
use Rattle.lattice_tests.specs.TableLaws.{table_lawful}

-- the number of the generator that an element starts with, and what follows
abbrev octahedron_words : ℕ → ℕ × ℕ
octahedron_words a = (get_or (0 ∷ 0 ∷ 1 ∷ 1 ∷ 2 ∷ 2 ∷ 2 ∷ 2 ∷ 3 ∷ 3 ∷ 3 ∷ 3 ∷ 3 ∷ 3 ∷ 3 ∷ 3 ∷ 3 ∷ 3 ∷ 3 ∷ 3 ∷ 3 ∷ 3 ∷ 3 ∷ 3 ∷ 4 ∷ 4 ∷ 4 ∷ 4 ∷ 4 ∷ 4 ∷ 4 ∷ 4 ∷ 4 ∷ 4 ∷ 4 ∷ 4 ∷ 4 ∷ 4 ∷ 4 ∷ 4 ∷ 4 ∷ 4 ∷ 4 ∷ 4 ∷ 4 ∷ 4 ∷ 4 ∷ 4 ∷ []) a 0, get_or (0 ∷ 0 ∷ 0 ∷ 1 ∷ 0 ∷ 1 ∷ 2 ∷ 3 ∷ 0 ∷ 4 ∷ 1 ∷ 5 ∷ 2 ∷ 6 ∷ 3 ∷ 7 ∷ 8 ∷ 12 ∷ 9 ∷ 13 ∷ 10 ∷ 14 ∷ 11 ∷ 15 ∷ 0 ∷ 2 ∷ 1 ∷ 3 ∷ 4 ∷ 6 ∷ 5 ∷ 7 ∷ 16 ∷ 18 ∷ 17 ∷ 19 ∷ 20 ∷ 22 ∷ 21 ∷ 23 ∷ 8 ∷ 10 ∷ 9 ∷ 11 ∷ 12 ∷ 14 ∷ 13 ∷ 15 ∷ []) a 0)

octahedron_tests : AreLawful octahedron octahedron_words
octahedron_tests = record { some = refl; products = refl; inverses = refl; identity = refl; back = refl; associates = refl; generators = refl; steps = refl; unit = refl; multiplies = refl }

pub octahedron_lawful : (f : ExactField) → IsAction f.laws (action_of f octahedron)
octahedron_lawful f = table_lawful octahedron octahedron_words octahedron_tests f
