-- Amplitudes of extra modes.
--
-- amounts_of amounts o: the amounts of the atoms of orbit o in whole ones, by column
-- columns_in amounts o: how many columns there are
use Rattle.std.specs.Prelude.{ℕ, ◌*◌, [], length, slice_index_or}
use Rattle.cyclo24.specs.ExactK24.{Exact24}
use Rattle.mode_project.specs.OrbitAmplitudes.{in_wholes}
use Rattle.extra_modes.specs.Amounts.{AmountsView, amount_at}

abbrev pub columns_in : AmountsView → ℕ → ℕ
columns_in amounts o = length (slice_index_or amounts.atoms o []) * amounts.each

abbrev pub amounts_of : AmountsView → ℕ → ℕ → Exact24
amounts_of amounts o = in_wholes (amount_at amounts o)
