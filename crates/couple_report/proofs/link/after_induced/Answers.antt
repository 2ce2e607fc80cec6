use Rattle.report_steps.specs.FindingLaws.{found-refused, found-next}
use Rattle.report_steps.specs.Steps.{never}
use Rattle.couple_report.specs.FoundLink.{link_of, IsLinkHeld}
use Rattle.couple_report.specs.HeldPairs.{chosen_pair}
use Rattle.couple_report.specs.LinkFound.{AfterLinkedPair}
use Rattle.couple_report.specs.Pairs.{RefusesPair, ArePair}
use Rattle.couple_report.proofs.PairLemmas.{places-pair}
use Rattle.couple_report.proofs.link.after_induced.Goals as goal

pub returns-in-Passed : goal.returns-in-Passed
returns-in-Passed c =
    let a = c.args in
    let d = a.file.now.divided in
    let h = rw c.in-Passed.is at c.places_of.ensures in
    found-next link_of IsLinkHeld (RefusesPair a.wanted a.other) never (ArePair a.wanted a.other) AfterLinkedPair d (chosen_pair d h.0.0 h.1.0) (places-pair a.wanted a.other d (c.in-Passed.k, c.in-Passed.l) h) c.after_places.result
    (c.after_places.ensures h.0.0 h.1.0 h.0.1 h.1.1)

pub returns-in-Refused : goal.returns-in-Refused
returns-in-Refused c =
    let a = c.args in
    found-refused link_of IsLinkHeld (RefusesPair a.wanted a.other) never (ArePair a.wanted a.other) AfterLinkedPair a.file.now.divided c.in-Refused.refusal (rw c.in-Refused.is at c.places_of.ensures)
