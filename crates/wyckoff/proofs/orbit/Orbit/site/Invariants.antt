use Rattle.std.specs.Prelude.{◌≡◌}
use Rattle.algebra.specs.RisingLists.{IsRisingListOf}
use Rattle.wyckoff.specs.Orbit.{image_of}
use Rattle.wyckoff.proofs.orbit.Orbit.site.Given as goal

abbrev pub invariant-loop-q : goal.invariant-loop-q
invariant-loop-q l = IsRisingListOf l.q (λ p. image_of l.self p l.i ≡ l.i) l.members.items
