use Rattle.std.proofs.Common.{◌≡◌}
use Rattle.lin_alg.specs.Matrix.{entry}
use Rattle.lin_alg.specs.Rows.{vector}
use Rattle.couple.specs.AddedRows.{IsRowAdded}
use Rattle.couple.proofs.averages.add_row.Given as goal

abbrev pub invariant-loop-l : goal.invariant-loop-l
invariant-loop-l g l =
    let f = g.F.Field.field in
    let v = g.F.Field.value in
    (l.sums.rows ≡ l.fn.sums.rows) × (l.sums.cols ≡ l.fn.sums.cols)
    × IsRowAdded f.laws l.a (v l.x) (vector f.laws v l.row) l.l (entry f.laws v l.fn.sums) (entry f.laws v l.sums)
