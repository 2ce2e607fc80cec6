use Rattle.std.proofs.Common.{arith}
use Rattle.iso_watch.proofs.TallyLemmas.{words-more}
use Rattle.iso_watch.proofs.tally.TallyWatch.line.Goals as goal

pub loop-dim-preserved : goal.loop-dim-preserved
loop-dim-preserved c = words-more c.self.inside.counts c.loop-dim.dim c.loop-dim.text c.push_count.new.text (omega arith) c.loop-dim.invariant c.in_ok-push_count.ensures
