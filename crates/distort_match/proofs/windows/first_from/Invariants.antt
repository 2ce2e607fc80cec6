use Rattle.std.proofs.Common.{◌-◌}
use Rattle.distort_match.specs.WindowParts.{IsBetween}
use Rattle.distort_match.proofs.windows.first_from.Given as goal

abbrev pub invariant-halves : goal.invariant-halves
invariant-halves l = IsBetween l.orbit.places l.v l.range.low l.range.high

abbrev pub decreases-halves : goal.decreases-halves
decreases-halves l = l.range.high - l.range.low
