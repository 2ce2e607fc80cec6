use Rattle.space_ops.proofs.LeastLemmas.{first-more}
use Rattle.std.proofs.Common.{sym, subst}
use Rattle.space_ops.specs.LeastShift.{IsFirstOfReduced}
use Rattle.space_ops.proofs.least_shift.least_of.Goals as goal

pub loop-centring-preserved : goal.loop-centring-preserved
loop-centring-preserved c =
    subst (IsFirstOfReduced c.args.t c.args.centrings.now _) (sym c.earlier-first.ensures)
    (first-more c.args.t c.args.centrings.now c.loop-centring.centring-index c.loop-centring.least c.reduced_sum.result c.reduced_sum.ensures c.loop-centring.invariant c.loop-centring-test.true)
