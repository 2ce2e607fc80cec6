use Rattle.std.proofs.Common.{refl}
use Rattle.couple_report.proofs.forms.with_right.Goals as goal

pub returns-in-Passed-clause-answer : goal.returns-in-Passed-clause-answer
returns-in-Passed-clause-answer c j e = (refl, rw c.in-Passed.is at (c.in_ok-right.ensures.answer j e))

pub returns-in-Refused-clause-answer : goal.returns-in-Refused-clause-answer
returns-in-Refused-clause-answer c j e = rw c.in-Refused.is at (c.in_ok-right.ensures.answer j e)
