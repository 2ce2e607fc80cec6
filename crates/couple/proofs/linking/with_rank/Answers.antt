use Rattle.std.proofs.Common.{arith}
use Rattle.couple.proofs.linking.with_rank.Goals as goal

pub overflow_cast-result : goal.overflow_cast-result
overflow_cast-result c =
    let l = c.in-Ok.ensures.few in
    let m = c.requires in
    omega (arith, l, m)
