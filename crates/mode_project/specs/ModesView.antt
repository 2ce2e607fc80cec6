-- What contracts see of the modes of an orbit.
--
-- ModesView: how many entries a mode has; the modes of irreps, each with the number of its irrep; the columns of the others
-- irrep_modes_in v, count_in v, mode_in v m: the modes of irreps as exact vectors; how many modes there are; mode m
use Rattle.std.specs.Prelude.{ℕ, ◌+◌, List, length}
use Rattle.cyclo24.specs.declared.k24.K24.{K24}
use Rattle.cyclo24.specs.ExactK24.{Exact24, k24_laws}
use Rattle.cyclo24.specs.K24.{exact24}
use Rattle.lin_alg.specs.Rows.{exact_rows}
use Rattle.mode_project.specs.Modes.{all_modes, vector_at}

pub record ModesView : Type 0 where
  pub size : ℕ
  pub rows : List (ℕ × List K24)
  pub sites : List ℕ

abbrev pub irrep_modes_in : ModesView → List (ℕ × (ℕ → Exact24))
irrep_modes_in v = exact_rows k24_laws exact24 v.rows

abbrev pub count_in : ModesView → ℕ
count_in v = length v.rows + length v.sites

abbrev pub mode_in : ModesView → ℕ → ℕ → Exact24
mode_in v = vector_at k24_laws (all_modes k24_laws (irrep_modes_in v) v.sites)
