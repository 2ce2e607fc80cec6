use Rattle.std.proofs.Common.{◌<◌, ap, Ok, arith}
use Rattle.small_rep.proofs.products.multiply_to.Goals as goal

pub returns-in-Ok-false-clause-no : goal.returns-in-Ok-false-clause-no
returns-in-Ok-false-clause-no g c q h =
    let below : c.loop-i.i < c.args.a.now.cols = omega arith in
    c.in-Ok-false.ensures.no (ap Ok c.in-Ok-false.field-0-test) (λ j l. h c.loop-i.i j below l)

pub returns-clause-yes : goal.returns-clause-yes
returns-clause-yes g c q i j li lj =
    let below : i < c.loop-i.i = omega arith in
    c.loop-i.invariant i below j lj
