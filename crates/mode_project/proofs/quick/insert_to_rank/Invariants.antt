use Rattle.std.proofs.Common.{◌<◌, length}
use Rattle.mode_project.specs.AtomSpace.{size_of}
use Rattle.mode_project.specs.Parts.{rows_in, row_in}
use Rattle.mode_project.specs.Scaled.{IsInImages, IsInside}
use Rattle.mode_project.proofs.quick.insert_to_rank.Given as goal

abbrev pub invariant-loop : goal.invariant-loop
invariant-loop g l =
    let f = g.F.Field.field.laws in
    let s = g.S.OfSpace.space in
    record {
      inside : IsInside f g.F.Field.value (size_of s) (IsInImages f s (row_in f g.F.Field.value (rows_in l.columns))) l.form;
      atom : l.i < length l.ways;
    }
