use Rattle.std.proofs.Common.{arith}
use Rattle.cyclo24.specs.K24.{exact24}
use Rattle.cyclo24.specs.ExactK24.{k24}
use Rattle.real_form.proofs.SpannedLemmas.{part-empty}
use Rattle.real_form.proofs.combined.start_pair.Goals as goal

pub returns-then-t-eq0 : goal.returns-then-t-eq0
returns-then-t-eq0 c a h = part-empty k24 exact24 4 a c.args.t c.clear.new.self c.clear.ensures.width c.clear.ensures.whole c.clear.ensures.rows

pub returns-else-t-eq0 : goal.returns-else-t-eq0
returns-else-t-eq0 c a h = let d = c.if-t-eq0.false in h (omega (arith, d))
