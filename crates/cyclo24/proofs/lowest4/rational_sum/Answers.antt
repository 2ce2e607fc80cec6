use Rattle.std.proofs.Common.{◌∙◌, ap}
use Rattle.cyclo24.specs.Listed.{is_positive}
use Rattle.cyclo24.specs.Lowest4Laws.{rational_numbers, rational_sum_answered, low_sum_positive}
use Rattle.cyclo24.proofs.lowest4.rational_sum.Goals as goal

pub lowest_rational-requires-clause-positive : goal.lowest_rational-requires-clause-positive
lowest_rational-requires-clause-positive c =
    let e = rational_numbers c.args.factor.n c.args.a.now c.args.b.now c.shortened-d.result c.shortened-e.result c.common-common.result c.divided-p.result c.divided-q.result c.shortened.result c.shortened-2.result c.joined-n.result c.times.result
    c.shortened-d.ensures c.shortened-e.ensures c.common-common.ensures.value c.divided-p.ensures.value c.divided-q.ensures.value c.shortened.ensures c.shortened-2.ensures c.joined-n.ensures.value c.times.ensures.value in
    ap is_positive e.1 ∙ low_sum_positive c.args.a.now.d.n c.args.b.now.d.n c.requires.positive c.requires.positive_other

pub returns : goal.returns
returns c =
    let e = rational_numbers c.args.factor.n c.args.a.now c.args.b.now c.shortened-d.result c.shortened-e.result c.common-common.result c.divided-p.result c.divided-q.result c.shortened.result c.shortened-2.result c.joined-n.result c.times.result
    c.shortened-d.ensures c.shortened-e.ensures c.common-common.ensures.value c.divided-p.ensures.value c.divided-q.ensures.value c.shortened.ensures c.shortened-2.ensures c.joined-n.ensures.value c.times.ensures.value in
    rational_sum_answered (record { n = c.args.factor.n }) c.args.a.now c.args.b.now c.lowest_rational.result c.joined-n.result c.times.result c.requires.factor c.requires.rational c.requires.rational_other e c.lowest_rational.ensures.lowest c.lowest_rational.ensures.narrow
