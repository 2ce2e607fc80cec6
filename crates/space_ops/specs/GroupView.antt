-- What contracts see of a group's fields.
use Rattle.space_ops.specs.declared.group.Group.TheInside.{Inside}
use Rattle.space_ops.specs.Group.{Parent, IsParentGroup}

abbrev pub view_of : Inside → Parent
view_of g = record { ops = g.ops.items; lattice = g.lattice; generators = g.generators.items }

abbrev pub IsGroup : Inside → Type 0
IsGroup g = IsParentGroup (view_of g)
