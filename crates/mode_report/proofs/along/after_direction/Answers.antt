use Rattle.report_steps.specs.FindingLaws.{found-refused}
use Rattle.mode_report.specs.Atoms.{RefusesAtoms}
use Rattle.mode_report.specs.DirectionFound.{AreWideAllAlong, AreToldAlong, IsReportedAlong}
use Rattle.mode_report.specs.FoundAlong.{along_text, IsAlongHeld}
use Rattle.mode_report.proofs.along.after_direction.Goals as goal

pub returns-in-Refused : goal.returns-in-Refused
returns-in-Refused c =
    let d = c.args.file.divided in
    found-refused along_text IsAlongHeld RefusesAtoms (AreWideAllAlong c.args.stab.now) (AreToldAlong c.args.stab.now) (IsReportedAlong d.file.format c.args.name c.args.number) d c.in-Refused.refusal (rw c.in-Refused.is at c.in_ok-orbits.ensures)
