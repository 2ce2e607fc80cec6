use Rattle.std.specs.Prelude.{length}
use Rattle.space_ops.specs.Op.{shift_of}
use Rattle.wyckoff.specs.Places.{place_at}
use Rattle.wyckoff.specs.OrbitParts.{turned_at, IsFilled, IsNumberOf}
use Rattle.wyckoff.proofs.tables.turns_of.Given as goal

abbrev pub invariant-loop-r : goal.invariant-loop-r
invariant-loop-r l = IsFilled l.r (length l.places) (λ r i. IsNumberOf l.places (shift_of (turned_at l.quotient r (place_at l.places i)))) 0 l.turns.items
