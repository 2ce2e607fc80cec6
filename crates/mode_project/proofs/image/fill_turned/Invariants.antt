use Rattle.std.proofs.Common.{◌≡◌}
use Rattle.lin_alg.specs.Rows.{vector}
use Rattle.mode_project.specs.Parts.{rows_in, row_in}
use Rattle.mode_project.proofs.ImageLemmas.{sums}
use Rattle.mode_project.proofs.image.fill_turned.Given as goal

abbrev pub invariant-loop-b : goal.invariant-loop-b
invariant-loop-b g l =
    let f = g.F.Field.field.laws in
    vector f g.F.Field.value l.into ≡ sums f g.S.OfSpace.space l.p l.a (row_in f g.F.Field.value (rows_in l.rows)) l.b
