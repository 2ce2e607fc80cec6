use Rattle.std.proofs.Common.{map, length}
use Rattle.lin_alg.specs.Rows.{vector}
use Rattle.lin_alg.proofs.ClearLemmas.{IsClearing}
use Rattle.lin_alg.proofs.elimination.clear_lines.Given as goal

abbrev pub invariant-loop-i : goal.invariant-loop-i
invariant-loop-i g l =
    let f = g.F.Field.field in
    let v = g.F.Field.value in
    IsClearing f v l.p (vector f.laws v l.row) (length l.row) (map (λ r. (r.0, r.1.items)) l.fn.lines) (map (λ r. (r.0, r.1.items)) l.lines) l.i
