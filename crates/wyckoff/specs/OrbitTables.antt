-- What contracts see of an orbit's fields.
use Rattle.std.specs.Prelude.{◌≡◌, ℕ, ◌<◌, ◌≤◌, ◌*◌, List, length}
use Rattle.std.specs.List.{All}
use Rattle.space_ops.specs.Op.{IsShiftWithin}
use Rattle.wyckoff.specs.declared.orbit.Orbit.TheInside.{Inside}
use Rattle.wyckoff.specs.Orbit.{OrbitView}

abbrev pub view_of : Inside → OrbitView
view_of o = record {
  label = o.label;
  line = o.line;
  places = o.places.items;
  order = o.rotations * o.translations;
  translations = o.translations;
  turns = o.turns.items;
  shifts = o.shifts.items;
}

-- rows of numbers of atoms
pub record IsTable (rows atoms : ℕ) (table : List ℕ) : Type 0 where
  pub size : length table ≡ rows * atoms
  pub below : All (λ i. i < atoms) table

pub record IsHeld (o : Inside) : Type 0 where
  pub few : length o.places.items ≤ 384
  pub some : 0 < o.translations
  pub fits : o.rotations * o.translations ≤ 6144
  pub near : All (IsShiftWithin 144000000) o.places.items
  pub turns : IsTable o.rotations (length o.places.items) o.turns.items
  pub shifts : IsTable o.translations (length o.places.items) o.shifts.items
