-- The prism's action is lawful: its tests compute.
--
-- prism_lawful: the laws of an action
use Rattle.std.proofs.Common.{ℕ, [], ◌∷◌, get_or, refl}
use Rattle.cyclo24.specs.ExactField.{ExactField}
use Rattle.lin_alg.specs.Action.{IsAction}
use Rattle.lattice_tests.specs.Prisms.{prism}
use Rattle.lattice_tests.specs.Tables.{AreLawful, action_of}
use Rattle.lattice_tests.specs.TableLaws.{table_lawful}

-- the number of the generator that an element starts with, and what follows
abbrev prism_words : ℕ → ℕ × ℕ
prism_words a = (get_or (0 ∷ 0 ∷ 0 ∷ 1 ∷ 0 ∷ 0 ∷ 2 ∷ 0 ∷ 0 ∷ 1 ∷ 0 ∷ 0 ∷ []) a 0, get_or (0 ∷ 0 ∷ 1 ∷ 0 ∷ 3 ∷ 4 ∷ 0 ∷ 6 ∷ 7 ∷ 6 ∷ 9 ∷ 10 ∷ []) a 0)

prism_tests : AreLawful prism prism_words
prism_tests = record { some = refl; products = refl; inverses = refl; identity = refl; back = refl; associates = refl; generators = refl; steps = refl; unit = refl; multiplies = refl }

pub prism_lawful : (f : ExactField) → IsAction f.laws (action_of f prism)
prism_lawful f = table_lawful prism prism_words prism_tests f
