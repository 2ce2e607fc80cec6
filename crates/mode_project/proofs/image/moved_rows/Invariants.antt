use Rattle.mode_project.specs.AtomSpace.{size_of}
use Rattle.mode_project.specs.Parts.{rows_in, row_in, AreVectors, image_row}
use Rattle.mode_project.proofs.image.moved_rows.Given as goal

abbrev pub invariant-loop-row : goal.invariant-loop-row
invariant-loop-row g l =
    let f = g.F.Field.field.laws in
    let s = g.S.OfSpace.space in
    AreVectors f g.F.Field.value (size_of s) (λ b. image_row f s l.q (row_in f g.F.Field.value (rows_in l.rows) b)) (rows_in l.images.items) l.row-index
