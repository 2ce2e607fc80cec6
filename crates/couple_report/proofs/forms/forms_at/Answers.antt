use Rattle.couple_report.specs.HeldPairs.{chosen_pair}
use Rattle.couple_report.proofs.PairLemmas.{left-wide, forms-answers}
use Rattle.couple_report.proofs.forms.forms_at.Goals as goal

pub returns-in-Passed-clause-answer : goal.returns-in-Passed-clause-answer
returns-in-Passed-clause-answer c i j a b =
    forms-answers (chosen_pair c.args.file.now.divided i j) c.in-Passed.left (rw c.in-Passed.is at (c.in_ok-left.ensures.answer i a)) c.with_right.result (c.with_right.ensures.answer j b)

pub returns-in-Refused-clause-answer : goal.returns-in-Refused-clause-answer
returns-in-Refused-clause-answer c i j a b = left-wide (chosen_pair c.args.file.now.divided i j) c.in-Refused.refusal (rw c.in-Refused.is at (c.in_ok-left.ensures.answer i a))
