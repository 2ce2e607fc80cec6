use Rattle.std.proofs.Common.{◌∙◌, refl, ap}
use Rattle.report_steps.specs.Contexts.{Divided}
use Rattle.report_steps.specs.Held.{IsRepHeld}
use Rattle.report_steps.proofs.EachLemmas.{each-moved}
use Rattle.report_steps.proofs.HeldLemmas.{reps-given, reps-refused}
use Rattle.report_steps.proofs.rep.reps_of.Goals as goal

pub returns-in-Passed : goal.returns-in-Passed
returns-in-Passed c =
    let d = c.args.celled.divided in
    let reps = c.in-Passed.reps.items in
    let all = rw c.in-Passed.is at c.in_ok-reps.ensures in
    let held = each-moved IsRepHeld c.divided.inside.quotient d.quotient c.irreps.result.now d.file.irreps reps (ap (λ (x : Divided). x.quotient) c.divided.view_is)
    (c.irreps.ensures ∙ ap (λ (x : Divided). x.file.irreps) c.divided.view_is) all in
    ((reps-given d.quotient d.file.irreps reps held, refl), held)

pub returns-in-Refused : goal.returns-in-Refused
returns-in-Refused c =
    let d = c.args.celled.divided in
    reps-refused d c.divided.inside.quotient c.irreps.result.now (ap (λ (x : Divided). x.quotient) c.divided.view_is) (c.irreps.ensures ∙ ap (λ (x : Divided). x.file.irreps) c.divided.view_is)
    c.in-Refused.refusal (rw c.in-Refused.is at c.in_ok-reps.ensures)
