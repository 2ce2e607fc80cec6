use Rattle.extra_modes.specs.ExtraSpace.{extra_space}
use Rattle.report_steps.specs.FindingLaws.{found-refused}
use Rattle.mode_report.specs.Atoms.{RefusesAtoms}
use Rattle.mode_report.specs.ModesFound.{AreWideAllBy}
use Rattle.amp_report.specs.AmpsFound.{HaveOrbitModesBy}
use Rattle.extra_report.specs.ExtraAmpsFound.{AfterModes}
use Rattle.extra_report.specs.FoundExtraAmps.{AreExtraAmpsHeld, extra_amps_of}
use Rattle.extra_report.proofs.amps_found.extra_amps_found.Goals as goal

pub returns-in-Refused : goal.returns-in-Refused
returns-in-Refused c =
    let d = c.args.file.divided in
    let n = c.args.nature in
    found-refused extra_amps_of AreExtraAmpsHeld RefusesAtoms (AreWideAllBy (extra_space n) 8) (HaveOrbitModesBy (extra_space n)) (AfterModes n d.file.format) d c.in-Refused.refusal (rw c.in-Refused.is at c.in_ok-orbits.ensures)
