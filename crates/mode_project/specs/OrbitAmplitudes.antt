-- Amplitudes of the modes of an orbit.
--
-- quotient_of f n d: n / d in a field
-- in_wholes units c: number c of these, each so many units, 1/12,000,000 of a whole
-- displacement_of shifts o: the displacements of the atoms of orbit o along the cell edges, in edges; number a of atom i in column 3 i + a
-- AreModesOfSome v: the modes of some space and weights
use Rattle.std.specs.Prelude.{◌≡◌, ℕ, ◌/◌, ◌%◌, ℤ, pos, List}
use Rattle.cyclo24.specs.ExactK24.{Exact24, k24_laws}
use Rattle.cyclo24.specs.FieldOn.{FieldOn}
use Rattle.cyclo24.specs.Numerals.{of_whole}
use Rattle.space_ops.specs.Op.{number_at}
use Rattle.distort_match.specs.Outcomes.{shift_at}
use Rattle.mode_project.specs.AtomSpace.{AtomSpace, size_of}
use Rattle.mode_project.specs.Modes.{AreModes}
use Rattle.mode_project.specs.ModesView.{ModesView, irrep_modes_in}

unfoldable pub quotient_of : {K : Type 0} → FieldOn K → ℤ → ℤ → K
quotient_of f n d = f.times (of_whole f n) (f.inverse (of_whole f d))

abbrev pub in_wholes : (ℕ → ℤ) → ℕ → Exact24
in_wholes units c = quotient_of k24_laws (units c) (pos 12000000)

abbrev pub displacement_of : List (List (List ℤ)) → ℕ → ℕ → Exact24
displacement_of shifts o = in_wholes (λ c. number_at (shift_at shifts o (c / 3)) (c % 3))

pub record AreModesOfSome (v : ModesView) : Type 0 where
  pub space : AtomSpace
  pub weights : List (ℕ → Exact24)
  pub modes : AreModes k24_laws space weights (irrep_modes_in v) v.sites
  pub size : size_of space ≡ v.size
