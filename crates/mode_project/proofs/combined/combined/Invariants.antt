use Rattle.std.proofs.Common.{◌≡◌}
use Rattle.cyclo24.specs.Sums.{total}
use Rattle.lin_alg.specs.Matrix.{entry}
use Rattle.mode_project.specs.Parts.{rows_in, row_in}
use Rattle.mode_project.proofs.combined.combined.Given as goal

abbrev pub invariant-loop-k : goal.invariant-loop-k
invariant-loop-k g l =
    let f = g.F.Field.field.laws in
    let v = g.F.Field.value in
    v l.sum ≡ total f l.k (λ k. f.times (entry f v l.x l.n k) (row_in f v (rows_in l.rows) k l.i))
