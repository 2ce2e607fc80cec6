use Rattle.std.proofs.Common.{map}
use Rattle.lin_alg.specs.Rows.{vector}
use Rattle.lin_alg.proofs.RowLemmas.{IsReducing}
use Rattle.lin_alg.proofs.elimination.reduce_row.Given as goal

abbrev pub invariant-loop-line : goal.invariant-loop-line
invariant-loop-line g l =
    let f = g.F.Field.field in
    let v = g.F.Field.value in
    IsReducing f v (map (λ r. (r.0, r.1.items)) l.lines) (vector f.laws v l.fn.row) l.line-index (vector f.laws v l.row)
