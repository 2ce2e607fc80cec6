use Rattle.std.proofs.Common.{◌≡◌, ◌+◌, ◌≤◌, arith}
use Rattle.apart_report.proofs.PairLemmas.{row-start, row-more, row-end}
use Rattle.apart_report.proofs.pairs.push_pairs.Goals as goal

pub loop-j-init : goal.loop-j-init
loop-j-init c = row-start c.args.i c.args.pairs.now.items

pub loop-j-preserved : goal.loop-j-preserved
loop-j-preserved c =
    row-more c.args.i c.loop-j.j c.args.pairs.now.items c.loop-j.pairs.items c.add.new.items.items c.loop-j.auto.j c.loop-j.invariant c.in_ok-add.ensures

pub returns : goal.returns
returns c n s =
    let l : c.args.i + 1 ≤ c.args.count = omega (arith, c.requires) in
    let u = c.loop-j.auto.j-end l in
    let e : c.loop-j.j ≡ c.args.count = omega (arith, c.loop-j-test.false, u) in
    row-end c.args.i c.loop-j.j n c.args.count c.args.pairs.now.items c.loop-j.pairs.items e s c.loop-j.invariant
