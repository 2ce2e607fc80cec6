-- What contracts see of the fields of modes.
--
-- view_of s: the modes
-- IsHeld s: each row has as many entries as there are columns, the columns of the others are columns, and there are few modes and columns
use Rattle.std.specs.Prelude.{ℕ, ◌+◌, ◌<◌, ◌^◌, length, slice_index}
use Rattle.mode_project.specs.Joined.{lines_in, AreLong}
use Rattle.mode_project.specs.ModesView.{ModesView}
use Rattle.mode_project.specs.declared.found.Modes.TheInside.{Inside}

abbrev pub view_of : Inside → ModesView
view_of s = record { size = s.size; rows = lines_in s.rows.items; sites = s.sites.items }

pub record IsHeld (s : Inside) : Type 0 where
  pub long : AreLong s.size (lines_in s.rows.items)
  pub inside : (k : ℕ) → k < length s.sites.items → slice_index s.sites.items k < s.size
  pub few : length s.rows.items + length s.sites.items < 2 ^ 64
  pub small : s.size < 2 ^ 16
