use Rattle.space_ops.specs.LeastShift.{IsFirstOfReduced}
use Rattle.space_ops.proofs.least_shift.least_of.Given as goal

abbrev pub invariant-loop-centring : goal.invariant-loop-centring
invariant-loop-centring l = IsFirstOfReduced l.t l.centrings l.centring-index l.least
