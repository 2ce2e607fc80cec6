use Rattle.std.proofs.Common.{◌≡◌, take}
use Rattle.lin_alg.specs.Rows.{exact_rows}
use Rattle.mode_project.specs.Joined.{IsJoined, joined_rows_in}
use Rattle.mode_project.specs.Modes.{marked, AreKept}
use Rattle.mode_project.proofs.joint.with_range.Given as goal

abbrev pub invariant-loop-k : goal.invariant-loop-k
invariant-loop-k g l =
    let f = g.F.Field.field.laws in
    let value = g.F.Field.value in
    record {
      joined : IsJoined f value l.held.form l.held.rows.items;
      width : l.held.form.width ≡ l.fn.joint.form.width;
      kept : AreKept f (joined_rows_in f value l.fn.joint.rows.items) (marked l.j (take l.k (exact_rows f value l.range.rows))) (joined_rows_in f value l.held.rows.items);
    }
