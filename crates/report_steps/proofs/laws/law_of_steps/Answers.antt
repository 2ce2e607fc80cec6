use Rattle.report_steps.proofs.StageLemmas.{phases-single, reps-single, dimensions-single}
use Rattle.report_steps.proofs.UniqueLemmas.{text-single, parent-single, order-single}
use Rattle.report_steps.proofs.laws.law_of_steps.Goals as goal

pub returns-clause-text : goal.returns-clause-text
returns-clause-text c = text-single c.law_of_files.ensures.file c.law_of_files.ensures.cause c.law_of_files.ensures.apart

pub returns-clause-parent : goal.returns-clause-parent
returns-clause-parent c = parent-single c.law_of_symbols.ensures c.law_of_lists.ensures

pub returns-clause-phases : goal.returns-clause-phases
returns-clause-phases c = phases-single

pub returns-clause-order : goal.returns-clause-order
returns-clause-order c = order-single

pub returns-clause-reps : goal.returns-clause-reps
returns-clause-reps c = reps-single

pub returns-clause-dimensions : goal.returns-clause-dimensions
returns-clause-dimensions c = dimensions-single
