use Rattle.std.proofs.Common.{◌*◌, ◌+◌}
use Rattle.cyclo24.specs.Numerals.{of_whole}
use Rattle.lin_alg.specs.Rows.{vector}
use Rattle.mode_project.specs.Parts.{IsPut}
use Rattle.mode_project.proofs.column.add_turned.Given as goal

abbrev pub invariant-loop-a : goal.invariant-loop-a
invariant-loop-a g l =
    let f = g.F.Field.field.laws in
    let s = g.S.OfSpace.space in
    let at = s.image l.q 0 * s.each in
    let old = vector f g.F.Field.value l.fn.column in
    IsPut old at l.a (λ a. f.plus (old (at + a)) (f.times (of_whole f (s.turn l.q a l.b)) (g.F.Field.value l.w))) (vector f g.F.Field.value l.column)
