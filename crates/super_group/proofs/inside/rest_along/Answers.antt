use Rattle.std.proofs.Common.{◌<◌, ◌*◌, arith}
use Rattle.std.proofs.lemmas.Int.{to_z-of_z}
use Rattle.algebra.specs.MultipleLaws.{rem_again}
use Rattle.super_group.proofs.inside.rest_along.Goals as goal

pub returns : goal.returns
returns c =
    let p : 0 < 12 * c.args.multiplier = omega arith in
    let k = rem_again (12 * c.args.multiplier) p c.args.a c.args.b in
    grind (arith, to_z-of_z, k, c.difference_along.ensures, c.reduced.ensures.value)
