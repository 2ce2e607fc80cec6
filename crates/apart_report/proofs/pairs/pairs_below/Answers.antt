use Rattle.std.proofs.Common.{◌<◌, ◌≤◌, arith}
use Rattle.apart_report.proofs.PairLemmas.{pairs-start, pairs-more, pairs-end}
use Rattle.apart_report.proofs.pairs.pairs_below.Goals as goal

pub loop-i-init : goal.loop-i-init
loop-i-init c = pairs-start c.args.count _ c.new-pairs.ensures.items

pub loop-i-preserved : goal.loop-i-preserved
loop-i-preserved c =
    let l : c.loop-i.i < c.args.count = omega (arith, c.loop-i-test.true) in
    pairs-more c.args.count c.loop-i.i c.loop-i.pairs.items c.push_pairs.new.pairs.items l c.loop-i.invariant c.in_ok-push_pairs.ensures

pub returns : goal.returns
returns c =
    let l : c.args.count ≤ c.loop-i.i = omega (arith, c.loop-i-test.false) in
    pairs-end c.args.count c.loop-i.i c.loop-i.pairs.items l c.loop-i.invariant
