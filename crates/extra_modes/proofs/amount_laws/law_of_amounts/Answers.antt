use Rattle.extra_modes.specs.AmountLaws.{amounts-unique, gather_cause-unique, gathered-apart}
use Rattle.extra_modes.proofs.amount_laws.law_of_amounts.Goals as goal

pub returns-clause-one : goal.returns-clause-one
returns-clause-one c g each v w a b = amounts-unique g each v w a b

pub returns-clause-cause : goal.returns-clause-cause
returns-clause-cause c g e f u w a b = gather_cause-unique g e f u w a b

pub returns-clause-apart : goal.returns-clause-apart
returns-clause-apart c g each v e a u = gathered-apart g each v e a u
