use Rattle.report_steps.specs.FindingLaws.{found-refused, found-next}
use Rattle.report_steps.specs.Steps.{never}
use Rattle.couple_report.specs.CoupleFound.{AfterPair}
use Rattle.couple_report.specs.FoundCouple.{couple_of, IsCoupleHeld}
use Rattle.couple_report.specs.HeldPairs.{chosen_pair}
use Rattle.couple_report.specs.Pairs.{RefusesPair, ArePair}
use Rattle.couple_report.proofs.PairLemmas.{places-pair}
use Rattle.couple_report.proofs.pair_listing.couple_found.Goals as goal

pub returns-in-Passed : goal.returns-in-Passed
returns-in-Passed c =
    let a = c.args in
    let d = a.file.divided in
    let h = rw c.in-Passed.is at c.places_of.ensures in
    found-next couple_of IsCoupleHeld (RefusesPair a.wanted a.other) never (ArePair a.wanted a.other) (AfterPair a.after a.count) d (chosen_pair d h.0.0 h.1.0) (places-pair a.wanted a.other d (c.in-Passed.k, c.in-Passed.l) h) c.after_places.result
    (c.after_places.ensures h.0.0 h.1.0 h.0.1 h.1.1)

pub returns-in-Refused : goal.returns-in-Refused
returns-in-Refused c =
    let a = c.args in
    found-refused couple_of IsCoupleHeld (RefusesPair a.wanted a.other) never (ArePair a.wanted a.other) (AfterPair a.after a.count) a.file.divided c.in-Refused.refusal (rw c.in-Refused.is at c.places_of.ensures)
