use Rattle.std.proofs.Common.{refl, sym, subst, inr}
use Rattle.report_steps.specs.FindingLaws.{found-wide}
use Rattle.report_steps.specs.declared.step.Step.TheVariants as step
use Rattle.couple_report.specs.FoundLink.{link_of, link_in, IsLinkHeld, FindsLink}
use Rattle.couple_report.specs.HeldPairs.{chosen_pair}
use Rattle.couple_report.specs.LinkFound.{RefusesNoLink, AreWideLinks, HaveLink, IsLinkReported, AfterLinkedPair}
use Rattle.couple_report.specs.declared.link.FoundLink.{FoundLink}
use Rattle.couple_report.proofs.link.after_places.Goals as goal

pub returns-in-Passed : goal.returns-in-Passed
returns-in-Passed c i j a b =
    let p = chosen_pair c.args.file.now.divided i j in
    let x = c.in-Passed.link in
    let h = rw c.in-Passed.is at (c.in_ok-link.ensures.answer i j a b) in
    let P : FoundLink → Type 0 = λ l. FindsLink (AfterLinkedPair p) (step.Passed l) in
    subst P (sym (c.told.ensures i j a b)) (inr (inr ((p, link_in x), (refl, h), refl)), rw c.in-Passed.is at c.in_ok-link.ensures.few)

pub returns-in-Refused : goal.returns-in-Refused
returns-in-Refused c i j a b =
    found-wide link_of IsLinkHeld RefusesNoLink AreWideLinks HaveLink IsLinkReported (chosen_pair c.args.file.now.divided i j) c.in-Refused.refusal (rw c.in-Refused.is at (c.in_ok-link.ensures.answer i j a b))
