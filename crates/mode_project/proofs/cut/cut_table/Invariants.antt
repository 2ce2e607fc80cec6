use Rattle.std.proofs.Common.{◌≡◌, ◌<◌, ℕ, length}
use Rattle.lin_alg.specs.Matrix.{entry}
use Rattle.mode_project.specs.Amplitudes.{cut_row}
use Rattle.mode_project.specs.Joined.{joined_rows_in}
use Rattle.mode_project.proofs.cut.cut_table.Given as goal

abbrev pub invariant-loop-i : goal.invariant-loop-i
invariant-loop-i g l =
    let f = g.F.Field.field.laws in
    let v = g.F.Field.value in
    record {
      rows : l.table.rows ≡ length l.rows;
      cols : l.table.cols ≡ length l.columns;
      done : (i : ℕ) → i < l.i → entry f v l.table i ≡ cut_row f l.columns (joined_rows_in f v l.rows) i;
    }
