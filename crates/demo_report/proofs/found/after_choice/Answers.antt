use Rattle.std.proofs.Common.{subst, IfOk}
use Rattle.report_steps.specs.FindingLaws.{found-wide, found-next}
use Rattle.list_report.specs.Choice.{chosen_of}
use Rattle.list_report.specs.Contexts.{Formed}
use Rattle.list_report.specs.HeldListings.{formed_by}
use Rattle.list_report.specs.RealForms.{RefusesForm, IsWideFormOf, IsFormed}
use Rattle.demo_report.specs.DemoFound.{AfterForm}
use Rattle.demo_report.specs.FoundDemo.{summary_of, IsDemoHeld, FindsDemo}
use Rattle.demo_report.proofs.found.after_choice.Goals as goal

pub returns-in_ok-formed-in-Passed : goal.returns-in_ok-formed-in-Passed
returns-in_ok-formed-in-Passed c i e =
    let d = chosen_of c.args.file.divided i in
    let form = c.in-Passed.form in
    let passed = rw c.in-Passed.is at (c.in_ok-form.ensures.answer i e) in
    let P : Formed → Type 0 = λ x. IfOk c.after_form.result (FindsDemo (AfterForm c.args.number c.args.file.divided x)) in
    found-next summary_of IsDemoHeld RefusesForm IsWideFormOf IsFormed (AfterForm c.args.number c.args.file.divided) d (formed_by d form) passed c.after_form.result (subst P (c.in_ok-formed-in-Passed.ensures.formed i e) c.after_form.ensures)

pub returns-in-Refused : goal.returns-in-Refused
returns-in-Refused c i e =
    found-wide summary_of IsDemoHeld RefusesForm IsWideFormOf IsFormed (AfterForm c.args.number c.args.file.divided) (chosen_of c.args.file.divided i) c.in-Refused.refusal (rw c.in-Refused.is at (c.in_ok-form.ensures.answer i e))
