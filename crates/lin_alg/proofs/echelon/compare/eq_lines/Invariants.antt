use Rattle.std.proofs.Common.{◌≡◌, length, map, drop}
use Rattle.lin_alg.specs.Compared.{lines_eq}
use Rattle.lin_alg.proofs.echelon.compare.eq_lines.Given as goal

abbrev pub invariant-loop-i : goal.invariant-loop-i
invariant-loop-i g l =
    (length l.a ≡ length l.b)
    × (lines_eq g.F.PartialEq.eq (map (λ r. (r.0, r.1.items)) l.a) (map (λ r. (r.0, r.1.items)) l.b) ≡ lines_eq g.F.PartialEq.eq (map (λ r. (r.0, r.1.items)) (drop l.i l.a)) (map (λ r. (r.0, r.1.items)) (drop l.i l.b)))
