use Rattle.std.proofs.Common.{◌≡◌, take, map}
use Rattle.lin_alg.specs.Rows.{vector}
use Rattle.mode_project.specs.AtomSpace.{size_of}
use Rattle.mode_project.specs.Joined.{IsJoined, joined_rows_in}
use Rattle.mode_project.specs.Modes.{AreIrrepModes}
use Rattle.mode_project.specs.Parts.{rows_in}
use Rattle.mode_project.proofs.irreps.irrep_modes.Given as goal

abbrev pub invariant-loop-j : goal.invariant-loop-j
invariant-loop-j g l =
    let f = g.F.Field.field.laws in
    let value = g.F.Field.value in
    let s = g.S.OfSpace.space in
    record {
      joined : IsJoined f value l.joint.form l.joint.rows.items;
      width : l.joint.form.width ≡ size_of s;
      modes : AreIrrepModes f s (take l.j (map (vector f value) (rows_in l.lists))) (joined_rows_in f value l.joint.rows.items);
    }
