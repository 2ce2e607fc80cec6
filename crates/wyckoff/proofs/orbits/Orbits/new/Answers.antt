use Rattle.std.proofs.Common.{arith}
use Rattle.wyckoff.proofs.orbits.Orbits.new.Goals as goal

pub returns-clause-accepted : goal.returns-clause-accepted
returns-clause-accepted c j l =
    let m = c.loop-n-test.false in
    c.loop-n.invariant.1 j (omega (arith, l, m))
