use Rattle.std.proofs.Common.{◌≡◌, map}
use Rattle.lin_alg.specs.Reduced.{free_columns}
use Rattle.lin_alg.proofs.echelon.free.free_columns.Given as goal

abbrev pub invariant-loop-j : goal.invariant-loop-j
invariant-loop-j g l = l.columns.items ≡ free_columns l.j (map (λ r. (r.0, r.1.items)) l.lines)
