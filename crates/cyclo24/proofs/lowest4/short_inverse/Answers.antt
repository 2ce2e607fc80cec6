use Rattle.cyclo24.specs.Lowest4Laws.{inverse_same, inverse_short, inverse_positive}
use Rattle.cyclo24.proofs.lowest4.short_inverse.Goals as goal

pub lowest-requires-clause-positive : goal.lowest-requires-clause-positive
lowest-requires-clause-positive c =
    let e = inverse_same c.args.a.now c.short.result c.inverse.result c.short.ensures c.inverse.ensures.a0 c.inverse.ensures.a1 c.inverse.ensures.a2 c.inverse.ensures.a3 c.inverse.ensures.low in
    inverse_positive c.args.a.now c.inverse.result c.upright.result e c.upright.ensures.value c.requires.nonzero

pub returns : goal.returns
returns c =
    let e = inverse_same c.args.a.now c.short.result c.inverse.result c.short.ensures c.inverse.ensures.a0 c.inverse.ensures.a1 c.inverse.ensures.a2 c.inverse.ensures.a3 c.inverse.ensures.low in
    inverse_short c.args.a.now c.lowest.result c.short.result c.inverse.result c.upright.result c.short.ensures c.requires.tiny c.inverse.ensures.u c.inverse.ensures.v e c.upright.ensures.value c.lowest.ensures.lowest c.lowest.ensures.narrow
