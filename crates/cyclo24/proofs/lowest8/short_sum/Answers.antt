use Rattle.cyclo24.specs.Lowest8Laws.{sum_numbers, sum_low_positive, sum_answered}
use Rattle.cyclo24.specs.Short8.{numerators}
use Rattle.cyclo24.proofs.lowest8.short_sum.Goals as goal

pub lowest-requires-clause-positive : goal.lowest-requires-clause-positive
lowest-requires-clause-positive c = sum_low_positive c.args.a.now c.args.b.now c.short.result c.short-2.result c.sum.result c.short.ensures c.short-2.ensures c.requires.positive c.requires.positive_other c.sum.ensures.low

pub returns : goal.returns
returns c =
    let e = sum_numbers c.args.a.now c.args.b.now c.short.result c.short-2.result c.sum.result c.short.ensures c.short-2.ensures c.sum.ensures.c0 c.sum.ensures.c1 c.sum.ensures.c2 c.sum.ensures.c3 c.sum.ensures.c4 c.sum.ensures.c5 c.sum.ensures.c6 c.sum.ensures.c7 c.sum.ensures.low in
    sum_answered c.args.a.now c.args.b.now c.lowest.result (numerators c.sum.result) c.sum.result.d.n c.requires.short c.requires.short_other e.0 e.1 c.lowest.ensures.lowest c.lowest.ensures.narrow
