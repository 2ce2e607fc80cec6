use Rattle.std.proofs.Common.{map}
use Rattle.extra_modes.specs.Amounts.{labelled}
use Rattle.extra_modes.specs.GatherParts.{AreNamed}
use Rattle.extra_modes.proofs.named_atoms.named_atoms.Given as goal

abbrev pub invariant-loop-n : goal.invariant-loop-n
invariant-loop-n l = AreNamed (record { d = l.d; orbits = map labelled l.orbits; lines = l.lines }) l.n l.atoms.items
