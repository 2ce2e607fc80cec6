use Rattle.std.proofs.Common.{◌≡◌, map, drop}
use Rattle.lin_alg.specs.Compared.{lines_cmp}
use Rattle.lin_alg.proofs.echelon.compare.cmp_lines.Given as goal

abbrev pub invariant-loop-i : goal.invariant-loop-i
invariant-loop-i g l =
    lines_cmp g.F.Ord.cmp (map (λ r. (r.0, r.1.items)) l.a) (map (λ r. (r.0, r.1.items)) l.b) ≡ lines_cmp g.F.Ord.cmp (map (λ r. (r.0, r.1.items)) (drop l.i l.a)) (map (λ r. (r.0, r.1.items)) (drop l.i l.b))
