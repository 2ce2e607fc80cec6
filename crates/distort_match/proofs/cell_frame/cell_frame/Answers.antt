use Rattle.std.proofs.Common.{refl}
use Rattle.std.proofs.lemmas.Bool.{iff_false}
use Rattle.distort_match.proofs.CellLemmas.{bad_cell, cell_frame_of}
use Rattle.distort_match.proofs.cell_frame.cell_frame.Goals as goal

pub returns-then-is_bad-clause-cause : goal.returns-then-is_bad-clause-cause
returns-then-is_bad-clause-cause c = record {
  cell = c.args.cell.now;
  is_cell = refl;
  bad = bad_cell c.args.cell.now c.parts_of-parts.result c.parts_of-parts.ensures c.args.quotient.now (c.is_bad.ensures.0 c.if-is_bad.true);
  line_is = refl;
}

pub returns-in-Ok-clause-frame : goal.returns-in-Ok-clause-frame
returns-in-Ok-clause-frame c =
    cell_frame_of c.args.cell.now c.parts_of-parts.result c.parts_of-parts.ensures c.args.quotient.now (λ b. iff_false c.is_bad.ensures c.if-is_bad.false b) _ refl refl c.in-Ok.ensures.value
    c.requires c.in-Ok.ensures.near
