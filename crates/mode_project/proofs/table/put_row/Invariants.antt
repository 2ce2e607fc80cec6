use Rattle.std.proofs.Common.{◌≡◌, ◌<◌, ℕ}
use Rattle.lin_alg.specs.Matrix.{entry}
use Rattle.lin_alg.specs.Rows.{vector}
use Rattle.mode_project.proofs.table.put_row.Given as goal

abbrev pub invariant-loop-j : goal.invariant-loop-j
invariant-loop-j g l =
    let f = g.F.Field.field.laws in
    let v = g.F.Field.value in
    record {
      rows : l.table.rows ≡ l.fn.table.rows;
      cols : l.table.cols ≡ l.fn.table.cols;
      others : (k j : ℕ) → (k ≡ l.i → ⊥) → entry f v l.table k j ≡ entry f v l.fn.table k j;
      done : (j : ℕ) → j < l.j → entry f v l.table l.i j ≡ vector f v l.row j;
    }
