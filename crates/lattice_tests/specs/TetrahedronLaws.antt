-- The action of the tetrahedron's rotations is lawful: its tests compute.
--
-- tetrahedron_lawful: the laws of an action
use Rattle.std.proofs.Common.{ℕ, [], ◌∷◌, get_or, refl}
use Rattle.cyclo24.specs.ExactField.{ExactField}
use Rattle.lin_alg.specs.Action.{IsAction}
use Rattle.lattice_tests.specs.Tetrahedra.{tetrahedron}
use Rattle.lattice_tests.specs.Tables.{AreLawful, action_of}
use Rattle.lattice_tests.specs.TableLaws.{table_lawful}

-- the number of the generator that an element starts with, and what follows
abbrev tetrahedron_words : ℕ → ℕ × ℕ
tetrahedron_words a = (get_or (0 ∷ 0 ∷ 1 ∷ 1 ∷ 2 ∷ 2 ∷ 2 ∷ 2 ∷ 2 ∷ 2 ∷ 2 ∷ 2 ∷ []) a 0, get_or (0 ∷ 0 ∷ 0 ∷ 1 ∷ 0 ∷ 3 ∷ 1 ∷ 2 ∷ 4 ∷ 7 ∷ 5 ∷ 6 ∷ []) a 0)

tetrahedron_tests : AreLawful tetrahedron tetrahedron_words
tetrahedron_tests = record { some = refl; products = refl; inverses = refl; identity = refl; back = refl; associates = refl; generators = refl; steps = refl; unit = refl; multiplies = refl }

pub tetrahedron_lawful : (f : ExactField) → IsAction f.laws (action_of f tetrahedron)
tetrahedron_lawful f = table_lawful tetrahedron tetrahedron_words tetrahedron_tests f
