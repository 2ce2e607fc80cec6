-- What contracts see of the fields of induced matrices.
use Rattle.std.specs.Prelude.{◌≡◌, ◌≤◌}
use Rattle.induce.specs.declared.induced.Induced.TheInside.{Inside}
use Rattle.induce.specs.Tables.{dimension_in}
use Rattle.induce.specs.InducedView.{InducedView}
use Rattle.induce.specs.Kinds.{real_dimension}

abbrev pub view_of : Inside → InducedView
view_of i = record { tables = i.tables; kind = i.kind; real_dim = i.real_dim; characters = i.characters.items; weights = i.weights.items }

-- the real dimension is that of the kind, at most 24
pub record IsHeld (i : Inside) : Type 0 where
  pub real_dim : i.real_dim ≡ real_dimension i.kind (dimension_in i.tables)
  pub few : i.real_dim ≤ 24
