use Rattle.std.proofs.Common.{◌*◌, ◌+◌}
use Rattle.cyclo24.specs.Numerals.{of_whole}
use Rattle.cyclo24.specs.Sums.{total}
use Rattle.lin_alg.specs.Rows.{vector}
use Rattle.mode_project.specs.Parts.{IsPut}
use Rattle.mode_project.proofs.image.write_atom.Given as goal

abbrev pub invariant-loop-a : goal.invariant-loop-a
invariant-loop-a g l =
    let f = g.F.Field.field.laws in
    let s = g.S.OfSpace.space in
    IsPut (vector f g.F.Field.value l.fn.image) (s.image l.q l.i * s.each) l.a
    (λ a. total f s.each (λ b. f.times (of_whole f (s.turn l.q a b)) (vector f g.F.Field.value l.row (l.i * s.each + b)))) (vector f g.F.Field.value l.image)
