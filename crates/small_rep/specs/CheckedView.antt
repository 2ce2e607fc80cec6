-- What contracts see of an accepted representation's fields.
use Rattle.small_rep.specs.declared.checked.CheckedRep.TheInside.{Inside}
use Rattle.small_rep.specs.RepCheck.{CheckedView, IsChecked}

abbrev pub view_of : Inside → CheckedView
view_of c = record { rep = c.rep; sum = c.sum }

abbrev pub IsHeld : Inside → Type 0
IsHeld c = IsChecked (view_of c)
