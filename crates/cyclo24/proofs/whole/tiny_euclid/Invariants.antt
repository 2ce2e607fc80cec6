use Rattle.std.proofs.Common.{◌≡◌}
use Rattle.cyclo24.specs.Gcd.{gcd}
use Rattle.cyclo24.proofs.whole.tiny_euclid.Given as goal

abbrev pub invariant-loop-y : goal.invariant-loop-y
invariant-loop-y l = gcd l.x l.y ≡ gcd l.a l.b

abbrev pub decreases-loop-y : goal.decreases-loop-y
decreases-loop-y l = l.y
