use Rattle.std.proofs.Common.{◌≡◌, sym, ap, ◌∙◌, subst, ℕ, ◌<◌, ◌+◌, ℤ, List, [], Option, length, arith}
use Rattle.std.proofs.lemmas.List.{get_or_default}
use Rattle.distort_match.specs.MarkParts.{AreAllMarked, AreAllShifts, IsOrbitCause}
use Rattle.distort_match.proofs.FinishLemmas.{AreShiftsBefore, none_before, orbit_before, all_before, missing_cause}
use Rattle.distort_match.proofs.marks.shifts_of.Goals as goal

pub loop-o-init : goal.loop-o-init
loop-o-init c = subst (AreShiftsBefore c.args.orbits.now c.args.marks.now 0) (sym c.new-shifts.ensures.items) (none_before c.args.orbits.now c.args.marks.now)

pub orbit_shifts-requires : goal.orbit_shifts-requires
orbit_shifts-requires c =
    let l : c.loop-o.o < length c.args.marks.now = omega (arith, c.loop-o-test.true, c.len-o-end.ensures, c.requires.count) in
    ap length (c.index-marks-o.is ∙ get_or_default c.args.marks.now c.loop-o.o _ [] l) ∙ c.requires.atoms c.loop-o.o c.get.result.now c.get.ensures

pub loop-o-preserved : goal.loop-o-preserved
loop-o-preserved c =
    let l : c.loop-o.o < length c.args.marks.now = omega (arith, c.loop-o-test.true, c.len-o-end.ensures, c.requires.count) in
    subst (AreShiftsBefore c.args.orbits.now c.args.marks.now (c.loop-o.o + 1)) (sym c.in-Ok-push.ensures.items)
    (orbit_before c.args.orbits.now c.args.marks.now c.loop-o.o c.loop-o.shifts.items c.get.result.now c.in-Ok.row c.loop-o.invariant c.get.ensures
    (subst (λ (r : List (Option (List ℤ))). AreAllMarked r (length c.get.result.now.places) c.in-Ok.row) (c.index-marks-o.is ∙ get_or_default c.args.marks.now c.loop-o.o _ [] l)
    c.in-Ok.ensures.shifts))

pub returns-in-Err-clause-cause : goal.returns-in-Err-clause-cause
returns-in-Err-clause-cause c =
    let l : c.loop-o.o < length c.args.marks.now = omega (arith, c.loop-o-test.true, c.len-o-end.ensures, c.requires.count) in
    missing_cause c.args.orbits.now c.args.marks.now c.loop-o.o c.loop-o.shifts.items c.get.result.now c.in-Err.error c.loop-o.invariant c.get.ensures
    (subst (λ (r : List (Option (List ℤ))). IsOrbitCause c.get.result.now r c.in-Err.error) (c.index-marks-o.is ∙ get_or_default c.args.marks.now c.loop-o.o _ [] l) c.in-Err.ensures.cause)

pub returns-clause-shifts : goal.returns-clause-shifts
returns-clause-shifts c =
    let n : c.loop-o.o ≡ length c.args.orbits.now = omega (arith, c.loop-o-test.false, c.loop-o.auto.o-end, c.len-o-end.ensures) in
    subst (AreAllShifts c.args.orbits.now c.args.marks.now) (sym c.from_vec.ensures)
    (all_before c.args.orbits.now c.args.marks.now c.loop-o.shifts.items (subst (λ (k : ℕ). AreShiftsBefore c.args.orbits.now c.args.marks.now k c.loop-o.shifts.items) n c.loop-o.invariant))
