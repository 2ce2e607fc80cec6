use Rattle.std.proofs.Common.{◌≡◌, ◌++◌, ◌∷◌, []}
use Rattle.small_rep.proofs.ReadLemmas.{ops_more}
use Rattle.small_rep.proofs.read.listed_ops.Goals as goal

pub loop-number-preserved : goal.loop-number-preserved
loop-number-preserved c =
    let pushed : c.push.new.self.items ≡ c.loop-number.ops.items ++ c.op.result ∷ [] = c.in-Ok.ensures.items in
    ops_more c.args.group.now.ops c.args.numbers.now c.loop-number.number-index c.loop-number.ops.items c.push.new.self.items c.op.result pushed c.loop-number.invariant.0 c.loop-number.invariant.1 c.op.ensures.value
