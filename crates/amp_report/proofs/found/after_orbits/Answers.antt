use Rattle.report_steps.specs.FindingLaws.{found-wide, found-next}
use Rattle.mode_report.specs.Atoms.{RefusesAtoms}
use Rattle.mode_report.specs.ModesFound.{AreWideAll}
use Rattle.amp_report.specs.AmpsFound.{HaveOrbitModes, AfterModes}
use Rattle.amp_report.specs.FoundAmps.{AreAmpsHeld, amps_of}
use Rattle.amp_report.specs.Held.{moded_in}
use Rattle.amp_report.proofs.found.after_orbits.Goals as goal

pub returns-in-Passed : goal.returns-in-Passed
returns-in-Passed c =
    let d = c.args.file.divided in
    let held = rw c.in-Passed.is at c.in_ok-modes.ensures in
    found-next amps_of AreAmpsHeld RefusesAtoms AreWideAll HaveOrbitModes (AfterModes d.file.format) d (moded_in d c.args.orbits c.in-Passed.modes.items) held.0 c.after_modes.result c.after_modes.ensures

pub returns-in-Refused : goal.returns-in-Refused
returns-in-Refused c =
    let d = c.args.file.divided in
    found-wide amps_of AreAmpsHeld RefusesAtoms AreWideAll HaveOrbitModes (AfterModes d.file.format) d c.in-Refused.refusal (rw c.in-Refused.is at c.in_ok-modes.ensures)
