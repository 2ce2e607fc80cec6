use Rattle.std.proofs.Common.{◌≡◌, map, drop}
use Rattle.lin_alg.specs.Reduced.{is_pivot}
use Rattle.lin_alg.proofs.echelon.free.has_pivot.Given as goal

abbrev pub invariant-loop-line : goal.invariant-loop-line
invariant-loop-line g l = is_pivot l.p (map (λ r. (r.0, r.1.items)) l.lines) ≡ is_pivot l.p (drop l.line-index (map (λ r. (r.0, r.1.items)) l.lines))
