use Rattle.std.proofs.Common.{sym, subst, arith}
use Rattle.space_ops.specs.Op.{IsShiftWithin}
use Rattle.space_ops.specs.WithinLaws.{shift_more}
use Rattle.distort_match.proofs.cells.determinant_of.Goals as goal

pub dot-requires-clause-column : goal.dot-requires-clause-column
dot-requires-clause-column c = subst (IsShiftWithin 1200000000) (sym c.widened.ensures) (shift_more 165888 1200000000 c.cross.result (omega arith) c.cross.ensures.near)
