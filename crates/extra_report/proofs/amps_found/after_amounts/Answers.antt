use Rattle.std.proofs.Common.{inr, refl, sym, subst, List, length}
use Rattle.mode_project.specs.ModesView.{ModesView}
use Rattle.extra_modes.specs.ExtraAmplitudes.{amounts_of}
use Rattle.extra_modes.specs.ExtraSpace.{extra_space}
use Rattle.report_steps.specs.FindingLaws.{found-wide}
use Rattle.report_steps.specs.Steps.{OrWide}
use Rattle.mode_report.specs.Held.{RefusesNothing}
use Rattle.mode_report.specs.ModesReport.{each_of}
use Rattle.amp_report.specs.AmpsHeldLaws.{rows-told, rows-held}
use Rattle.amp_report.specs.Held.{AreRowsBy, IsWideSomeRowBy, moded_in, told_in}
use Rattle.extra_report.specs.ExtraAmpsFound.{AreSolvable, AreWideExtraAmps, HaveExtraAmps, IsAmpsReported}
use Rattle.extra_report.specs.ExtraReport.{entries_of}
use Rattle.extra_report.specs.FoundExtraAmps.{AreExtraAmpsHeld, extra_amps_of}
use Rattle.extra_report.proofs.AmpsLemmas.{amounts-solvable, amps-wide}
use Rattle.extra_report.proofs.amps_found.after_amounts.Goals as goal

pub rows_of-requires : goal.rows_of-requires
rows_of-requires c =
    let P : List ModesView → Type 0 = λ us. AreSolvable us c.args.amounts.now in
    subst P (sym c.deref.ensures.value) (amounts-solvable c.args.nature c.args.file.divided c.args.orbits c.args.modes.items c.requires.modes c.args.amounts.now c.requires.amounts)

pub returns-in-Passed : goal.returns-in-Passed
returns-in-Passed c =
    let d = c.args.file.divided in
    let n = c.args.nature in
    let all = c.args.modes.items in
    let v = amounts_of c.args.amounts.now in
    let rows = c.in-Passed.rows.items in
    let P : List ModesView → Type 0 = λ us. AreRowsBy us v (length us) rows in
    let h = subst P c.deref.ensures.value (rw c.in-Passed.is at c.in_ok-rows.ensures) in
    (inr (inr (told_in d.file.irreps c.args.orbits all rows, rows-told (extra_space n) (each_of (entries_of n)) d c.args.orbits all c.requires.modes v rows h, refl)), rows-held (extra_space n) (each_of (entries_of n)) d c.args.orbits all c.requires.modes v rows h)

pub returns-in-Refused : goal.returns-in-Refused
returns-in-Refused c =
    let d = c.args.file.divided in
    let n = c.args.nature in
    let all = c.args.modes.items in
    let r = c.in-Refused.refusal in
    let P : List ModesView → Type 0 = λ us. OrWide RefusesNothing (IsWideSomeRowBy 9 us) (amounts_of c.args.amounts.now) r in
    found-wide extra_amps_of AreExtraAmpsHeld RefusesNothing (AreWideExtraAmps n) (HaveExtraAmps n) (IsAmpsReported n d.file.format) (record { moded = moded_in d c.args.orbits all; amounts = c.args.amounts.now }) r
    (amps-wide n d c.args.orbits all c.requires.modes c.args.amounts.now r (subst P c.deref.ensures.value (rw c.in-Refused.is at c.in_ok-rows.ensures)))
