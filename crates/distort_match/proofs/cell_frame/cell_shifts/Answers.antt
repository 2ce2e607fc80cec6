use Rattle.std.proofs.Common.{sym, subst, ℕ, ◌<◌, ◌+◌, ℤ, List, [], Option, length, get_or}
use Rattle.std.specs.List.{All}
use Rattle.std.specs.Prelude.{MatchOption, ⊤}
use Rattle.space_ops.specs.Op.{vector_of, IsShiftWithin}
use Rattle.distort_match.specs.CellPieces.{IsShiftUnder, AreShiftsUnder}
use Rattle.distort_match.proofs.CellLemmas.{no_shifts, one_shift_more}
use Rattle.distort_match.proofs.MatchLemmas.{translation_near}
use Rattle.distort_match.proofs.cell_frame.cell_shifts.Goals as goal

abbrev Held : ℕ → List (List ℤ) → List (List ℤ) → ℕ → List (Option (List ℤ)) → Type 0
Held size adjugate ts n shifts = AreShiftsUnder size adjugate ts n shifts × All (λ shift. MatchOption shift ⊤ (IsShiftWithin 144000000)) shifts

pub loop-t-init : goal.loop-t-init
loop-t-init c =
    subst (Held c.args.parts.size c.args.parts.adjugate c.args.quotient.now.translations 0) (sym c.new-shifts.ensures.items)
    (no_shifts c.args.parts.size c.args.parts.adjugate c.args.quotient.now.translations)

pub loop-t-preserved : goal.loop-t-preserved
loop-t-preserved c =
    let size = c.args.parts.size in
    let adjugate = c.args.parts.adjugate in
    let k =
    subst (λ (ts : List (List ℤ)). IsShiftUnder size adjugate (vector_of (get_or ts c.loop-t.t [])) c.cell_shift.result) c.translations-translations.ensures c.cell_shift.ensures.value in
    subst (Held c.args.parts.size c.args.parts.adjugate c.args.quotient.now.translations (c.loop-t.t + 1)) (sym {A = List (Option (List ℤ))} c.in-Ok.ensures.items)
    (one_shift_more size adjugate c.args.quotient.now.translations c.loop-t.t c.loop-t.shifts.items c.cell_shift.result c.loop-t.invariant k c.cell_shift.ensures.near)

pub cell_shift-requires-clause-translation : goal.cell_shift-requires-clause-translation
cell_shift-requires-clause-translation c =
    let e = c.translations-translations.ensures in
    subst (λ (ts : List (List ℤ)). IsShiftWithin 144 (get_or ts c.loop-t.t [])) (sym e)
    (translation_near c.args.quotient.now c.order.ensures.quotient c.loop-t.t (subst (λ (ts : List (List ℤ)). c.loop-t.t < length ts) e c.loop-t-test.true))
