use Rattle.std.proofs.Common.{inr, refl}
use Rattle.report_steps.specs.FindingLaws.{found-wide}
use Rattle.mode_report.specs.Atoms.{RefusesAtoms}
use Rattle.mode_report.specs.DirectionFound.{AreWideAllAlong, AreToldAlong, IsReportedAlong}
use Rattle.mode_report.specs.DirectionHeld.{along_in}
use Rattle.mode_report.specs.FoundAlong.{along_text, IsAlongHeld}
use Rattle.mode_report.proofs.along.after_orbits.Goals as goal

pub returns-in-Passed : goal.returns-in-Passed
returns-in-Passed c =
    let h = rw c.in-Passed.is at c.in_ok-rows.ensures in
    (inr (inr (along_in c.args.file.divided.file.irreps c.args.orbits c.in-Passed.rows.items, h.0, refl)), h.1)

pub returns-in-Refused : goal.returns-in-Refused
returns-in-Refused c =
    let d = c.args.file.divided in
    found-wide along_text IsAlongHeld RefusesAtoms (AreWideAllAlong c.args.stab.now) (AreToldAlong c.args.stab.now) (IsReportedAlong d.file.format c.args.name c.args.number) d c.in-Refused.refusal (rw c.in-Refused.is at c.in_ok-rows.ensures)
