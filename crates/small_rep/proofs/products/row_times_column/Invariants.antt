use Rattle.std.proofs.Common.{◌≡◌}
use Rattle.lin_alg.specs.Matrix.{entry}
use Rattle.cyclo24.specs.Sums.{total}
use Rattle.small_rep.proofs.products.row_times_column.Given as goal

abbrev pub invariant-loop-k : goal.invariant-loop-k
invariant-loop-k g l =
    let f = g.F.Field.field in
    let v = g.F.Field.value in
    v l.sum ≡ total f.laws l.k (λ k. f.laws.times (entry f.laws v l.a l.i k) (entry f.laws v l.b k l.j))
