use Rattle.lin_alg.specs.Rows.{vector}
use Rattle.mode_project.specs.AtomSpace.{size_of}
use Rattle.mode_project.specs.Parts.{rows_in, AreVectors}
use Rattle.mode_project.specs.Projection.{projection, column_of}
use Rattle.mode_project.proofs.range.first_columns.Given as goal

abbrev pub invariant-loop-b : goal.invariant-loop-b
invariant-loop-b g l =
    let f = g.F.Field.field.laws in
    let s = g.S.OfSpace.space in
    AreVectors f g.F.Field.value (size_of s) (column_of f (size_of s) (projection f s (vector f g.F.Field.value l.weights))) (rows_in l.columns.items) l.b
