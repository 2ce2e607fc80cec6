-- What contracts see of a real form.
--
-- quotient_of x: the quotient that acts
-- basis_of x: its rows with their pivots
-- action_of x: the quotient with its generators, and the matrices in the basis
-- action_of-lawful x: its laws
use Rattle.std.specs.Prelude.{ℕ, List, length}
use Rattle.cyclo24.specs.declared.k24.K24.{K24}
use Rattle.cyclo24.specs.ExactK24.{k24, k24_laws}
use Rattle.lin_alg.specs.Action.{Action, IsAction}
use Rattle.super_group.specs.Quotient.{SupercellGroup, quotient_group, generators_of}
use Rattle.real_form.specs.declared.form.RealForm.{RealForm}
use Rattle.real_form.specs.Actions.{action_by, action-lawful}
use Rattle.real_form.specs.Held.{generator_of, entry_in}
use Rattle.real_form.specs.Vectors.{lines_of}

-- the quotient that acts
abbrev pub quotient_of : RealForm → SupercellGroup
quotient_of x = x.quotient

-- the rows of the basis with their pivots
abbrev pub basis_of : RealForm → List (ℕ × List K24)
basis_of x = lines_of x.lines.items

-- the quotient with its matrices in the basis
abbrev pub action_of : RealForm → Action
action_of x =
    action_by k24 (quotient_group x.quotient) (length (generators_of x.quotient)) (generator_of x.quotient) (length x.lines.items)
    (entry_in x.quotient (length x.lines.items) x.translations x.rotations)

pub action_of-lawful : (x : RealForm) → IsAction k24_laws (action_of x)
action_of-lawful x =
    action-lawful k24 (quotient_group x.quotient) (length (generators_of x.quotient)) (generator_of x.quotient) (length x.lines.items) (entry_in x.quotient (length x.lines.items) x.translations x.rotations)
    x.group x.below x.generated x.identity x.multiplies
