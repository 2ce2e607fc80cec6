use Rattle.std.proofs.Common.{◌*◌, ◌+◌}
use Rattle.mode_project.specs.AtomSpace.{size_of}
use Rattle.mode_project.specs.Parts.{rows_in, row_in, spread, HoldsSpan}
use Rattle.mode_project.proofs.range.insert_atom.Given as goal

abbrev pub invariant-loop-a : goal.invariant-loop-a
invariant-loop-a g l =
    let f = g.F.Field.field.laws in
    let s = g.S.OfSpace.space in
    HoldsSpan f g.F.Field.value (size_of s) (spread f s l.ways (row_in f g.F.Field.value (rows_in l.columns))) (l.i * s.each + l.a) l.form
