-- What contracts see of a numbering's fields.
use Rattle.std.specs.Prelude.{◌≤◌, length}
use Rattle.super_group.specs.declared.numbering.Numbering.TheInside.{Inside}
use Rattle.super_group.specs.Quotient.{SupercellGroup, IsQuotient, order_of}
use Rattle.super_group.specs.RotationTable.{IsProductTable}

abbrev pub view_of : Inside → SupercellGroup
view_of s = record { parent = s.group; d = s.d; translations = s.translations.items }

pub record IsHeld (s : Inside) : Type 0 where
  pub quotient : IsQuotient (view_of s)
  pub few : order_of (view_of s) ≤ 6144
  pub products : IsProductTable s.group.ops (length s.group.ops) s.products
