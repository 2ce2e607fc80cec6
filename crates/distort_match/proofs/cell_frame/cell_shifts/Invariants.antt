use Rattle.std.specs.List.{All}
use Rattle.std.specs.Prelude.{MatchOption, ⊤}
use Rattle.space_ops.specs.Op.{IsShiftWithin}
use Rattle.distort_match.specs.CellPieces.{AreShiftsUnder}
use Rattle.distort_match.proofs.cell_frame.cell_shifts.Given as goal

abbrev pub invariant-loop-t : goal.invariant-loop-t
invariant-loop-t l =
    AreShiftsUnder l.parts.size l.parts.adjugate l.quotient.translations l.t l.shifts.items
    × All (λ shift. MatchOption shift ⊤ (IsShiftWithin 144000000)) l.shifts.items
