use Rattle.std.proofs.Common.{◌≡◌, length}
use Rattle.lin_alg.specs.Matrix.{entry}
use Rattle.couple.specs.Listed.{lifted}
use Rattle.couple.specs.AddedRows.{IsPartOf}
use Rattle.couple.proofs.averages.add_average.Given as goal

abbrev pub invariant-loop-q : goal.invariant-loop-q
invariant-loop-q g l =
    let f = g.F.Field.field in
    let v = g.F.Field.value in
    (l.sums.rows ≡ l.fn.sums.rows) × (l.sums.cols ≡ l.fn.sums.cols) × (length l.row ≡ length l.fn.row)
    × IsPartOf f.laws (lifted f.laws (g.P.Pairs.pair l.pairs)) l.i l.j l.q (entry f.laws v l.sums)
