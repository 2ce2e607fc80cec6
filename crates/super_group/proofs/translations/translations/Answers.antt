use Rattle.std.proofs.Common.{arith}
use Rattle.super_group.proofs.BeforeLemmas.{before-end}
use Rattle.super_group.proofs.translations.translations.Goals as goal

pub returns : goal.returns
returns c = before-end c.args.lattice c.args.d c.loop-x.x c.loop-x.list.items (omega arith) c.loop-x.invariant
