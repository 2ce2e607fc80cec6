use Rattle.std.proofs.Common.{◌≤◌, ◌+◌, length}
use Rattle.lin_alg.specs.Rows.{exact_rows}
use Rattle.fix_lattice.specs.Subspaces.{IsWholeForm}
use Rattle.fix_lattice.specs.Wide.{IsFormAfter, row_of}
use Rattle.fix_lattice.proofs.cutting.cut_form.Given as goal

abbrev pub invariant-loop-i : goal.invariant-loop-i
invariant-loop-i g l =
    let f = g.F.Field.field in
    let v = g.F.Field.value in
    record {
      whole : IsWholeForm f.laws v (length l.fn.row) l.form;
      after : IsFormAfter f.laws (length l.fn.row) (exact_rows f.laws v l.fn.space.rows) (row_of f.laws (exact_rows f.laws v l.fn.by.rows)) l.i (exact_rows f.laws v l.form.rows);
      cost : l.steps ≤ l.fn.steps + l.i;
    }
