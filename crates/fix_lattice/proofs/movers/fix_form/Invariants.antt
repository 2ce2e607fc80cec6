use Rattle.std.proofs.Common.{◌≡◌, ◌≤◌, ◌+◌, []}
use Rattle.lin_alg.specs.Fixed.{mover}
use Rattle.lin_alg.specs.Rows.{exact_rows}
use Rattle.fix_lattice.specs.Subspaces.{IsWholeForm}
use Rattle.fix_lattice.specs.Wide.{IsFormAfter}
use Rattle.fix_lattice.proofs.movers.fix_form.Given as goal

abbrev pub invariant-loop-i : goal.invariant-loop-i
invariant-loop-i g l =
    let f = g.F.Field.field in
    let v = g.F.Field.value in
    let act = g.G.Acts.action l.acts in
    record {
      whole : IsWholeForm f.laws v act.dim l.form;
      after : IsFormAfter f.laws act.dim [] (mover f.laws act l.q) l.i (exact_rows f.laws v l.form.rows);
      cost : l.steps ≤ l.fn.steps + l.i;
      dim : l.dim ≡ act.dim;
    }
