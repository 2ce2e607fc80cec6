use Rattle.cyclo24.specs.Lowest4Laws.{sum_numbers, sum_low_positive, sum_answered}
use Rattle.cyclo24.specs.Short4.{numerators}
use Rattle.cyclo24.proofs.lowest4.short_sum.Goals as goal

pub lowest-requires-clause-positive : goal.lowest-requires-clause-positive
lowest-requires-clause-positive c = sum_low_positive c.args.a.now c.args.b.now c.short.result c.short-2.result c.sum.result c.short.ensures c.short-2.ensures c.requires.positive c.requires.positive_other c.sum.ensures.low

pub returns : goal.returns
returns c =
    let e = sum_numbers c.args.factor.n c.args.a.now c.args.b.now c.short.result c.short-2.result c.sum.result c.short.ensures c.short-2.ensures c.sum.ensures.a0 c.sum.ensures.a1 c.sum.ensures.a2 c.sum.ensures.a3 c.sum.ensures.low in
    sum_answered (record { n = c.args.factor.n }) c.args.a.now c.args.b.now c.lowest.result (numerators c.sum.result) c.sum.result.d.n c.requires.factor c.requires.short c.requires.short_other e.0 e.1 c.lowest.ensures.lowest c.lowest.ensures.narrow
