use Rattle.std.proofs.Common.{refl}
use Rattle.report_steps.specs.FindingLaws.{found-refused, found-next}
use Rattle.report_steps.specs.Steps.{never}
use Rattle.amp_report.specs.AmpsFound.{RefusesMatch, HaveShifts, AfterShifts}
use Rattle.amp_report.specs.FoundAmps.{AreAmpsHeld, amps_of}
use Rattle.amp_report.specs.Held.{moded_in, shifted_in}
use Rattle.amp_report.proofs.found.after_modes.Goals as goal

pub returns-in-Passed : goal.returns-in-Passed
returns-in-Passed c =
    let d = c.args.file.divided in
    let all = c.args.modes.items in
    let shifts = c.in-Passed.shifts in
    found-next amps_of AreAmpsHeld RefusesMatch never HaveShifts (AfterShifts d.file.format) (moded_in d c.args.orbits all) (shifted_in d c.args.orbits all shifts) (refl, rw c.in-Passed.is at c.in_ok-shifts.ensures) c.after_shifts.result
    c.after_shifts.ensures

pub returns-in-Refused : goal.returns-in-Refused
returns-in-Refused c =
    let d = c.args.file.divided in
    found-refused amps_of AreAmpsHeld RefusesMatch never HaveShifts (AfterShifts d.file.format) (moded_in d c.args.orbits c.args.modes.items) c.in-Refused.refusal (rw c.in-Refused.is at c.in_ok-shifts.ensures)
