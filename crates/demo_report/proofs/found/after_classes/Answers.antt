use Rattle.std.proofs.Common.{inr, sym}
use Rattle.super_group.specs.Quotient.{order_of}
use Rattle.report_steps.specs.Finding.{report}
use Rattle.report_steps.specs.FindingLaws.{found-wide}
use Rattle.mode_report.specs.Atoms.{RefusesAtoms}
use Rattle.mode_report.specs.Held.{told_in}
use Rattle.mode_report.specs.ModesFound.{AreWideAll, AreToldOf}
use Rattle.demo_report.specs.DemoFound.{IsReported}
use Rattle.demo_report.specs.DemoReport.{orders_of, summary_text}
use Rattle.demo_report.specs.FoundDemo.{summary_of, IsDemoHeld}
use Rattle.demo_report.proofs.found.after_classes.Goals as goal

pub returns-in-Passed : goal.returns-in-Passed
returns-in-Passed c l n e =
    let h = rw c.in-Passed.is at c.in_ok-modes.ensures in
    let d = c.args.file.divided in
    let told = told_in d.file.irreps c.in-Passed.modes.orbits c.in-Passed.modes.modes.items in
    (inr (inr (told, h.0, λ i. report (summary_text d.file.format c.args.number (order_of d.quotient) (sym n i) (orders_of (sym e i)) told))), h.1)

pub returns-in-Refused : goal.returns-in-Refused
returns-in-Refused c l n e =
    let d = c.args.file.divided in
    found-wide summary_of IsDemoHeld RefusesAtoms AreWideAll AreToldOf (IsReported c.args.number d l) d c.in-Refused.refusal (rw c.in-Refused.is at c.in_ok-modes.ensures)
