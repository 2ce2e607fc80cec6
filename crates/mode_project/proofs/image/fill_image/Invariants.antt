use Rattle.lin_alg.specs.Rows.{vector}
use Rattle.mode_project.proofs.ImageLemmas.{AreMoved}
use Rattle.mode_project.proofs.image.fill_image.Given as goal

abbrev pub invariant-loop-i : goal.invariant-loop-i
invariant-loop-i g l =
    let f = g.F.Field.field.laws in
    AreMoved f g.S.OfSpace.space l.q (vector f g.F.Field.value l.row) l.i (vector f g.F.Field.value l.image)
