use Rattle.std.proofs.Common.{inr, refl, sym, subst, List, length}
use Rattle.mode_project.specs.ModesView.{ModesView}
use Rattle.report_steps.specs.FindingLaws.{found-wide}
use Rattle.report_steps.specs.Steps.{OrWide}
use Rattle.mode_report.specs.Held.{RefusesNothing}
use Rattle.amp_report.specs.AmpsFound.{RefusesNone, AreWideAmplitudes, HaveAmplitudes, IsReported}
use Rattle.amp_report.specs.FoundAmps.{AreAmpsHeld, amps_of}
use Rattle.amp_report.specs.Held.{AreSolvable, AreRowsOf, IsWideSomeRow, shifted_in, told_in}
use Rattle.amp_report.proofs.HeldLemmas.{modes-solvable, rows-wide}
use Rattle.amp_report.specs.AmpsHeldLaws.{rows-told, rows-held}
use Rattle.mode_project.specs.AtomSpace.{displacements}
use Rattle.mode_project.specs.OrbitAmplitudes.{displacement_of}
use Rattle.amp_report.proofs.found.after_shifts.Goals as goal

pub rows_of-requires : goal.rows_of-requires
rows_of-requires c =
    let P : List ModesView → Type 0 = λ us. AreSolvable us c.args.shifts.now in
    subst P (sym c.deref.ensures.value) (modes-solvable c.args.file.divided c.args.orbits c.args.modes.items c.requires.modes c.args.shifts.now c.requires.shifts)

pub returns-in-Passed : goal.returns-in-Passed
returns-in-Passed c =
    let d = c.args.file.divided in
    let all = c.args.modes.items in
    let shifts = c.args.shifts.now in
    let rows = c.in-Passed.rows.items in
    let P : List ModesView → Type 0 = λ us. AreRowsOf us shifts (length us) rows in
    let h = subst P c.deref.ensures.value (rw c.in-Passed.is at c.in_ok-rows.ensures) in
    (inr (inr (told_in d.file.irreps c.args.orbits all rows, rows-told displacements 3 d c.args.orbits all c.requires.modes (displacement_of shifts) rows h, refl)), rows-held displacements 3 d c.args.orbits all c.requires.modes (displacement_of shifts) rows h)

pub returns-in-Refused : goal.returns-in-Refused
returns-in-Refused c =
    let d = c.args.file.divided in
    let all = c.args.modes.items in
    let shifts = c.args.shifts.now in
    let r = c.in-Refused.refusal in
    let P : List ModesView → Type 0 = λ us. OrWide RefusesNothing (IsWideSomeRow us) shifts r in
    found-wide amps_of AreAmpsHeld RefusesNone AreWideAmplitudes HaveAmplitudes (IsReported d.file.format) (shifted_in d c.args.orbits all shifts) r
    (rows-wide d c.args.orbits all c.requires.modes shifts r (subst P c.deref.ensures.value (rw c.in-Refused.is at c.in_ok-rows.ensures)))
