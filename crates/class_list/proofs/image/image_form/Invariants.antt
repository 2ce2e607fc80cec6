use Rattle.std.proofs.Common.{◌≤◌, ◌+◌}
use Rattle.lin_alg.specs.Rows.{exact_rows}
use Rattle.fix_lattice.specs.Subspaces.{IsWholeForm}
use Rattle.class_list.proofs.InsertLemmas.{IsImaged}
use Rattle.class_list.proofs.image.image_form.Given as goal

abbrev pub invariant-loop-i : goal.invariant-loop-i
invariant-loop-i g l =
    let f = g.F.Field.field in
    let v = g.F.Field.value in
    let act = g.G.Acts.action l.acts in
    IsWholeForm f.laws v act.dim l.out × IsImaged f act l.q (exact_rows f.laws v l.form.rows) (exact_rows f.laws v l.out.rows) l.i × (l.steps ≤ l.fn.steps + l.i)
