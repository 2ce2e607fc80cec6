-- What contracts see of a quotient's fields.
use Rattle.super_group.specs.declared.quotient.Quotient.TheInside.{Inside}
use Rattle.super_group.specs.Quotient.{SupercellGroup, order_of}
use Rattle.super_group.specs.Squares.{AreSquares}

abbrev pub view_of : Inside → SupercellGroup
view_of s = s.numbering

-- the squares of all elements
abbrev pub IsHeld : Inside → Type 0
IsHeld s = AreSquares s.numbering s.squares.items (order_of s.numbering)
