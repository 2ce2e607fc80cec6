use Rattle.space_ops.specs.Op.{shift_of}
use Rattle.wyckoff.specs.Places.{place_at}
use Rattle.wyckoff.specs.OrbitParts.{shifted_at, IsRowAdded, IsNumberOf}
use Rattle.wyckoff.proofs.tables.push_shifts.Given as goal

abbrev pub invariant-loop-i : goal.invariant-loop-i
invariant-loop-i l = IsRowAdded l.i (λ i. IsNumberOf l.places (shift_of (shifted_at l.quotient l.t (place_at l.places i)))) 0 l.fn.shifts.items l.shifts.items
