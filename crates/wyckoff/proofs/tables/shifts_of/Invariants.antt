use Rattle.std.specs.Prelude.{length}
use Rattle.space_ops.specs.Op.{shift_of}
use Rattle.wyckoff.specs.Places.{place_at}
use Rattle.wyckoff.specs.OrbitParts.{shifted_at, IsFilled, IsNumberOf}
use Rattle.wyckoff.proofs.tables.shifts_of.Given as goal

abbrev pub invariant-loop-t : goal.invariant-loop-t
invariant-loop-t l = IsFilled l.t (length l.places) (λ t i. IsNumberOf l.places (shift_of (shifted_at l.quotient t (place_at l.places i)))) 0 l.shifts.items
