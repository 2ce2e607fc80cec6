use Rattle.std.proofs.Common.{◌∙◌, refl, ap}
use Rattle.report_steps.specs.Contexts.{Divided}
use Rattle.report_steps.specs.Held.{IsInducedHeld}
use Rattle.report_steps.proofs.EachLemmas.{each-moved}
use Rattle.report_steps.proofs.HeldLemmas.{induced-given, induced-refused}
use Rattle.report_steps.proofs.induction.induced_of.Goals as goal

pub returns-in-Passed : goal.returns-in-Passed
returns-in-Passed c =
    let d = c.args.represented.divided in
    let matrices = c.in-Passed.irreps.items in
    let all = rw c.in-Passed.is at c.in_ok-irreps.ensures in
    let held = each-moved IsInducedHeld c.divided.inside.quotient d.quotient c.irreps.result.now d.file.irreps matrices (ap (λ (x : Divided). x.quotient) c.divided.view_is)
    (c.irreps.ensures ∙ ap (λ (x : Divided). x.file.irreps) c.divided.view_is) all in
    ((induced-given d.quotient d.file.irreps matrices held, refl), held)

pub returns-in-Refused : goal.returns-in-Refused
returns-in-Refused c =
    let d = c.args.represented.divided in
    induced-refused d c.divided.inside.quotient c.irreps.result.now (ap (λ (x : Divided). x.quotient) c.divided.view_is) (c.irreps.ensures ∙ ap (λ (x : Divided). x.file.irreps) c.divided.view_is)
    c.in-Refused.refusal (rw c.in-Refused.is at c.in_ok-irreps.ensures)
