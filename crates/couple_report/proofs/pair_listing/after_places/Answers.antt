use Rattle.report_steps.specs.FindingLaws.{found-wide}
use Rattle.couple_report.specs.CoupleFound.{AfterForms}
use Rattle.couple_report.specs.FoundCouple.{couple_of, IsCoupleHeld}
use Rattle.couple_report.specs.HeldPairs.{chosen_pair}
use Rattle.couple_report.specs.Pairs.{RefusesForms, AreWideForms, AreFormed}
use Rattle.couple_report.proofs.CoupleLemmas.{pair-next}
use Rattle.couple_report.proofs.pair_listing.after_places.Goals as goal

pub returns-in-Passed : goal.returns-in-Passed
returns-in-Passed c i j a b =
    let t = c.together_of-together in
    pair-next (chosen_pair c.args.file.divided i j) c.in-Passed.forms t.result c.args.after c.args.count c.after_forms.result t.ensures.after t.ensures.count (t.ensures.formed i j a b)
    (rw c.in-Passed.is at (c.in_ok-forms.ensures.answer i j a b)) c.after_forms.ensures

pub returns-in-Refused : goal.returns-in-Refused
returns-in-Refused c i j a b =
    found-wide couple_of IsCoupleHeld RefusesForms AreWideForms AreFormed (AfterForms c.args.after c.args.count) (chosen_pair c.args.file.divided i j) c.in-Refused.refusal
    (rw c.in-Refused.is at (c.in_ok-forms.ensures.answer i j a b))
