use Rattle.std.proofs.Common.{rules}
use Rattle.kstar.proofs.Remainders.{multiple-rem_code}
use Rattle.kstar.proofs.fraction.quotient.Goals as goal

pub returns-else-n-divisor-eq0 : goal.returns-else-n-divisor-eq0
returns-else-n-divisor-eq0 c x e =
    c.if-n-divisor-eq0.false (multiple-rem_code x c.args.n c.from-divisor.result c.args.d c.requires.positive c.ranges.n (search rules) c.from-divisor.ensures e)
