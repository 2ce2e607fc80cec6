use Rattle.std.specs.Int.RustNames.{unsigned_abs}
use Rattle.cyclo24.specs.Written8Laws.{reduced_narrow, over_is}
use Rattle.cyclo24.proofs.fraction8.Fraction8.reduced.Goals as goal

pub returns-clause-narrow : goal.returns-clause-narrow
returns-clause-narrow c =
    reduced_narrow c.args.self _ c.content-all.result c.requires.narrow c.content-all.ensures.value
    (over_is c.args.self (record { d = c.divided.result; c0 = c.divided-2.result; c1 = c.divided-3.result; c2 = c.divided-4.result; c3 = c.divided-5.result; c4 = c.divided-6.result; c5 = c.divided-7.result; c6 = c.divided-8.result; c7 = c.divided-9.result }) (unsigned_abs c.content-all.result.n)
    c.divided.ensures c.divided-2.ensures c.divided-3.ensures c.divided-4.ensures c.divided-5.ensures c.divided-6.ensures c.divided-7.ensures c.divided-8.ensures c.divided-9.ensures)
