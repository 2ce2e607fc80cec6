use Rattle.std.proofs.Common.{ℕ, ◌<◌, map}
use Rattle.space_ops.specs.Op.{vector_of}
use Rattle.extra_modes.specs.Amounts.{labelled, HasAtom}
use Rattle.extra_modes.proofs.named_atoms.atom_at.Given as goal

abbrev pub invariant-loop-orbit : goal.invariant-loop-orbit
invariant-loop-orbit l = (o i : ℕ) → o < l.orbit → HasAtom l.d (map labelled l.orbits) l.label (vector_of l.x) o i → ⊥
