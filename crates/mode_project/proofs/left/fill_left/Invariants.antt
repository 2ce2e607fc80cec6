use Rattle.std.proofs.Common.{◌≡◌, ◌<◌, ℕ}
use Rattle.lin_alg.specs.Rows.{vector}
use Rattle.mode_project.specs.Parts.{rows_in, row_in}
use Rattle.mode_project.proofs.left.fill_left.Given as goal

abbrev pub invariant-loop-k : goal.invariant-loop-k
invariant-loop-k g l =
    let f = g.F.Field.field.laws in
    let v = g.F.Field.value in
    (k : ℕ) → k < l.k → vector f v l.row k ≡ f.plus (row_in f v (rows_in l.images) k l.i) (f.neg (row_in f v (rows_in l.rows) k l.i))
