use Rattle.std.proofs.Common.{map}
use Rattle.lin_alg.proofs.PlaceLemmas.{IsPlacing}
use Rattle.lin_alg.proofs.elimination.place_of.Given as goal

abbrev pub invariant-loop-i : goal.invariant-loop-i
invariant-loop-i g l = IsPlacing g.F.Field.field g.F.Field.value l.p (map (λ r. (r.0, r.1.items)) l.lines) l.i
