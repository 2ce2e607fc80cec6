use Rattle.std.proofs.Common.{◌∙◌, subst, ℤ, List, length}
use Rattle.space_ops.specs.LeastShift.{IsFirstOfReduced}
use Rattle.space_ops.proofs.LeastLemmas.{first-least}
use Rattle.space_ops.proofs.least_shift.least_shift.Goals as goal

pub returns : goal.returns
returns c =
    first-least c.args.lattice c.args.t c.least_of.result
    (subst (λ (cs : List (List ℤ)). IsFirstOfReduced c.args.t cs (length cs) c.least_of.result) (c.as_slice.ensures.value ∙ c.centrings.ensures) c.least_of.ensures)
