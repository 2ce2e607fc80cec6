use Rattle.std.proofs.Common.{ℕ, refl, sym, ℤ, List, Option, option_copied, subst, w64}
use Rattle.std.proofs.lemmas.Int.{to_z-of_z}
use Rattle.distort_match.specs.Matches.{Matching}
use Rattle.distort_match.specs.MarkParts.{AreAllShifts, IsMissingCause}
use Rattle.distort_match.specs.WindowParts.{AreSorted}
use Rattle.distort_match.proofs.FinishLemmas.{no_marks_made, all_shifts}
use Rattle.distort_match.proofs.MatchLemmas.{frame_refused, missing_refused}
use Rattle.distort_match.proofs.PlaceLemmas.{value_map, err_map}
use Rattle.distort_match.proofs.WindowLemmas.{orbits_sorted}
use Rattle.distort_match.proofs.matching.match_atoms.Goals as goal

pub add_lines-requires-clause-sorted : goal.add_lines-requires-clause-sorted
add_lines-requires-clause-sorted c =
    let s = c.args.quotient.now in
    subst (λ (d : List ℕ). AreSorted d c.args.orbits.now) (sym c.d-d.ensures)
    (orbits_sorted s c.requires.orbits.0 c.args.orbits.now c.requires.orbits.1 (λ atom o h i l. c.law_of_images.ensures.inside s atom o c.order.ensures.quotient h i l))

pub returns-in-Err-clause-cause : goal.returns-in-Err-clause-cause
returns-in-Err-clause-cause c =
    frame_refused
    (record { group = c.args.quotient.now; orbits = c.args.orbits.now; listed = c.args.listed.now; tolerance = c.args.tolerance; cell = option_copied c.args.cell })
    c.in-Err.error c.in-Err.ensures.cause

pub returns-in-Err-add_lines-clause-cause : goal.returns-in-Err-add_lines-clause-cause
returns-in-Err-add_lines-clause-cause c =
    let m : Matching =
    record { group = c.args.quotient.now; orbits = c.args.orbits.now; listed = c.args.listed.now; tolerance = c.args.tolerance; cell = option_copied c.args.cell } in
    c.in-Err-add_lines.ensures.cause m
    (record { d_is = sym c.d-d.ensures; orbits_are = refl; listed_are = refl; tolerance_is = sym (to_z-of_z w64 c.args.tolerance c.ranges.tolerance); frame_is = c.in-Ok.ensures.frame })
    (no_marks_made m c.in-Ok-no_marks.marks.items c.in-Ok.ensures.frame.good c.in-Ok-no_marks.ensures.free)

pub returns-clause-shifts : goal.returns-clause-shifts
returns-clause-shifts c =
    let m : Matching =
    record { group = c.args.quotient.now; orbits = c.args.orbits.now; listed = c.args.listed.now; tolerance = c.args.tolerance; cell = option_copied c.args.cell } in
    let a =
    c.in-Ok-add_lines.ensures.marked m
    (record { d_is = sym c.d-d.ensures; orbits_are = refl; listed_are = refl; tolerance_is = sym (to_z-of_z w64 c.args.tolerance c.ranges.tolerance); frame_is = c.in-Ok.ensures.frame })
    (no_marks_made m c.in-Ok-no_marks.marks.items c.in-Ok.ensures.frame.good c.in-Ok-no_marks.ensures.free) in
    value_map c.shifts_of.result _ _
    (λ shifts h. all_shifts m c.add_lines.new.marks.items a shifts (subst (λ (ms : List (List (Option (List ℤ)))). AreAllShifts c.args.orbits.now ms shifts) c.deref.ensures.value h))
    c.shifts_of.ensures.shifts

pub returns-clause-cause : goal.returns-clause-cause
returns-clause-cause c =
    let m : Matching =
    record { group = c.args.quotient.now; orbits = c.args.orbits.now; listed = c.args.listed.now; tolerance = c.args.tolerance; cell = option_copied c.args.cell } in
    let a =
    c.in-Ok-add_lines.ensures.marked m
    (record { d_is = sym c.d-d.ensures; orbits_are = refl; listed_are = refl; tolerance_is = sym (to_z-of_z w64 c.args.tolerance c.ranges.tolerance); frame_is = c.in-Ok.ensures.frame })
    (no_marks_made m c.in-Ok-no_marks.marks.items c.in-Ok.ensures.frame.good c.in-Ok-no_marks.ensures.free) in
    err_map c.shifts_of.result _ _
    (λ error h. missing_refused m c.add_lines.new.marks.items a error (subst (λ (ms : List (List (Option (List ℤ)))). IsMissingCause c.args.orbits.now ms error) c.deref.ensures.value h))
    c.shifts_of.ensures.cause
