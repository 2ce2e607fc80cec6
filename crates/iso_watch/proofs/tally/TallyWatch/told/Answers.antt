use Rattle.std.proofs.Common.{length, ap, arith}
use Rattle.iso_watch.proofs.TallyLemmas.{told-inside, told-outside}
use Rattle.iso_watch.proofs.tally.TallyWatch.told.Goals as goal

pub returns-then-dim-lt-DIMENSIONS : goal.returns-then-dim-lt-DIMENSIONS
returns-then-dim-lt-DIMENSIONS c =
    told-inside c.args.self.now c.self.inside.counts c.args.notice c.from-dim.result c.saturating_add.result c.self.view_is c.from-dim.ensures (omega arith) c.saturating_add.ensures

pub returns-else-dim-lt-DIMENSIONS : goal.returns-else-dim-lt-DIMENSIONS
returns-else-dim-lt-DIMENSIONS c = told-outside c.args.self.now c.args.notice (omega (arith, ap length c.self.view_is))
