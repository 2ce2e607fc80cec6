use Rattle.std.proofs.Common.{below_more, ap, Ok}
use Rattle.small_rep.specs.RepCheck.{PairMultiplies}
use Rattle.small_rep.proofs.pair_check.first_failing.Goals as goal

pub loop-e-preserved : goal.loop-e-preserved
loop-e-preserved c = below_more (PairMultiplies c.args.rep.now) c.loop-e.e c.loop-e.invariant (c.in-Ok-true.ensures.yes (ap Ok c.in-Ok-true.field-0-test))
