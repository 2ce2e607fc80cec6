use Rattle.std.proofs.Common.{map}
use Rattle.extra_modes.specs.Amounts.{labelled}
use Rattle.extra_modes.specs.GatherParts.{AreGiven}
use Rattle.extra_modes.proofs.gathering.give_all.Given as goal

abbrev pub invariant-loop-n : goal.invariant-loop-n
invariant-loop-n l = AreGiven (record { d = l.fn.d; orbits = map labelled l.orbits; lines = l.lines }) l.n l.rows.items
