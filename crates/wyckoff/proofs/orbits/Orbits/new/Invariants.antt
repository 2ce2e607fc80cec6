use Rattle.wyckoff.specs.AtomLines.{AreAccepted}
use Rattle.wyckoff.specs.OrbitParts.{AreOrbitsBefore}
use Rattle.wyckoff.proofs.orbits.Orbits.new.Given as goal

abbrev pub invariant-loop-n : goal.invariant-loop-n
invariant-loop-n l = AreOrbitsBefore l.quotient l.atoms l.n l.orbits.items × AreAccepted l.quotient l.atoms l.n
