use Rattle.std.proofs.Common.{◌≡◌}
use Rattle.lin_alg.specs.Matrix.{entry}
use Rattle.couple.specs.Listed.{lifted}
use Rattle.couple.specs.AddedRows.{IsElementAdded}
use Rattle.couple.proofs.averages.add_element.Given as goal

abbrev pub invariant-loop-a : goal.invariant-loop-a
invariant-loop-a g l =
    let f = g.F.Field.field in
    let v = g.F.Field.value in
    (l.sums.rows ≡ l.fn.sums.rows) × (l.sums.cols ≡ l.fn.sums.cols)
    × IsElementAdded f.laws (lifted f.laws (g.P.Pairs.pair l.pairs)) l.q l.i l.j l.a (entry f.laws v l.fn.sums) (entry f.laws v l.sums)
