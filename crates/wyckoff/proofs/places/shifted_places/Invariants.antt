use Rattle.std.specs.Prelude.{[], length}
use Rattle.wyckoff.specs.Places.{place_at}
use Rattle.wyckoff.specs.OrbitParts.{IsShifted, IsFilled}
use Rattle.wyckoff.proofs.places.shifted_places.Given as goal

abbrev pub invariant-loop-r : goal.invariant-loop-r
invariant-loop-r l = IsFilled l.r (length l.quotient.translations) (λ r. IsShifted l.quotient (place_at l.from r)) [] l.places.items
