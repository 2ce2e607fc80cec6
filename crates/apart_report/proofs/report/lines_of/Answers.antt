use Rattle.std.proofs.Common.{◌∙◌, ◌<◌, ◌≤◌, length, get_or, arith, []}
use Rattle.apart_report.proofs.TextLemmas.{name-inside, pair-more, pairs-whole}
use Rattle.apart_report.proofs.report.lines_of.Goals as goal

pub bounds-pairs-k : goal.bounds-pairs-k
bounds-pairs-k c = omega (arith, c.loop-k-test.true, c.loop-k.invariant.end, c.requires.count)

pub bounds-irreps-i : goal.bounds-irreps-i
bounds-irreps-i c =
    let l : c.loop-k.k < length c.args.pairs.now = omega (arith, c.loop-k-test.true, c.loop-k.invariant.end, c.requires.count) in
    (c.requires.below c.loop-k.k (0, 0) l).0

pub bounds-irreps-j : goal.bounds-irreps-j
bounds-irreps-j c =
    let l : c.loop-k.k < length c.args.pairs.now = omega (arith, c.loop-k-test.true, c.loop-k.invariant.end, c.requires.count) in
    (c.requires.below c.loop-k.k (0, 0) l).1

pub loop-k-preserved : goal.loop-k-preserved
loop-k-preserved c =
    let irreps = c.args.irreps.now in
    let pairs = c.args.pairs.now in
    let answers = c.args.answers.now in
    let k = c.loop-k.k in
    let l : k < length answers = omega (arith, c.loop-k-test.true, c.loop-k.invariant.end) in
    let m : k < length pairs = omega (arith, l, c.requires.count) in
    let b = c.requires.below k (0, 0) m in
    record {
      end = c.loop-k.invariant.end;
      text = pair-more irreps pairs answers [] c.loop-k.text c.push_pair.new.text c.as_slice-name.result.now c.as_slice-other.result.now k l c.requires.count c.loop-k.invariant.text
          (c.as_slice-name.ensures.value ∙ name-inside irreps (get_or pairs k (0, 0)).0 c.index-irreps-i.result b.0)
          (c.as_slice-other.ensures.value ∙ name-inside irreps (get_or pairs k (0, 0)).1 c.index-irreps-j.result b.1) c.in_ok-push_pair.ensures;
    }

pub returns : goal.returns
returns c =
    let whole : length c.args.answers.now ≤ c.loop-k.k = omega (arith, c.loop-k-test.false, c.loop-k.invariant.end) in
    pairs-whole c.args.irreps.now c.args.pairs.now c.args.answers.now [] c.loop-k.text c.loop-k.k whole c.requires.count c.loop-k.invariant.text
