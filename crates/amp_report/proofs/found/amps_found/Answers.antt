use Rattle.report_steps.specs.FindingLaws.{found-refused}
use Rattle.mode_report.specs.Atoms.{RefusesAtoms}
use Rattle.mode_report.specs.ModesFound.{AreWideAll}
use Rattle.amp_report.specs.AmpsFound.{HaveOrbitModes, AfterModes}
use Rattle.amp_report.specs.FoundAmps.{AreAmpsHeld, amps_of}
use Rattle.amp_report.proofs.found.amps_found.Goals as goal

pub returns-in-Refused : goal.returns-in-Refused
returns-in-Refused c =
    let d = c.args.file.divided in
    found-refused amps_of AreAmpsHeld RefusesAtoms AreWideAll HaveOrbitModes (AfterModes d.file.format) d c.in-Refused.refusal (rw c.in-Refused.is at c.in_ok-orbits.ensures)
