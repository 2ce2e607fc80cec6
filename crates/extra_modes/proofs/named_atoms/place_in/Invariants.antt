use Rattle.std.proofs.Common.{ℕ, ◌<◌}
use Rattle.space_ops.specs.Op.{vector_of}
use Rattle.wyckoff.specs.Places.{place_at}
use Rattle.extra_modes.specs.Amounts.{IsInPlace}
use Rattle.extra_modes.proofs.named_atoms.place_in.Given as goal

abbrev pub invariant-loop-i : goal.invariant-loop-i
invariant-loop-i l = (k : ℕ) → k < l.i → IsInPlace l.d (vector_of l.x) (place_at l.orbit.places k) → ⊥
