use Rattle.std.proofs.Common.{◌≡◌}
use Rattle.cyclo24.specs.Sums.{total}
use Rattle.lin_alg.specs.Rows.{vector}
use Rattle.lin_alg.specs.Spans.{row_vectors}
use Rattle.mode_project.specs.Joined.{joined_rows_in}
use Rattle.mode_project.specs.Modes.{vector_at}
use Rattle.mode_project.proofs.solved.sum_at.Given as goal

abbrev pub invariant-loop-k : goal.invariant-loop-k
invariant-loop-k g l =
    let f = g.F.Field.field.laws in
    let v = g.F.Field.value in
    v l.sum ≡ total f l.k (λ k. f.times (vector f v l.x k) (vector_at f (row_vectors (joined_rows_in f v l.rows)) k l.c))
