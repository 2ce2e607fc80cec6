use Rattle.std.proofs.Common.{sym, subst, arith}
use Rattle.space_ops.specs.Op.{IsShiftWithin}
use Rattle.space_ops.specs.WithinLaws.{shift_more}
use Rattle.space_ops.proofs.rotation.determinant_of.Goals as goal

pub long_dot-requires-clause-shift : goal.long_dot-requires-clause-shift
long_dot-requires-clause-shift c = subst (IsShiftWithin 1000000) (sym c.widened.ensures) (shift_more 18 1000000 c.cross.result (omega arith) c.cross.ensures.within)
