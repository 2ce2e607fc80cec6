use Rattle.extra_modes.specs.ExtraSpace.{extra_space}
use Rattle.report_steps.specs.FindingLaws.{found-refused}
use Rattle.mode_report.specs.Atoms.{RefusesAtoms}
use Rattle.mode_report.specs.ModesFound.{AreWideAllBy, AreToldBy}
use Rattle.extra_report.specs.ExtraFound.{IsReported}
use Rattle.extra_report.specs.FoundExtra.{IsExtraHeld, extra_of}
use Rattle.extra_report.proofs.found.extra_found.Goals as goal

pub returns-in-Refused : goal.returns-in-Refused
returns-in-Refused c =
    let d = c.args.file.divided in
    let n = c.args.nature in
    found-refused extra_of IsExtraHeld RefusesAtoms (AreWideAllBy (extra_space n) 8) (AreToldBy (extra_space n)) (IsReported n d.file.format) d c.in-Refused.refusal (rw c.in-Refused.is at c.in_ok-orbits.ensures)
