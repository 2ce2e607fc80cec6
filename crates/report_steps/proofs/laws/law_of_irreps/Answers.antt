use Rattle.report_steps.proofs.StageLemmas.{facts-all, induce-same}
use Rattle.report_steps.proofs.laws.law_of_irreps.Goals as goal

pub returns-clause-facts : goal.returns-clause-facts
returns-clause-facts c = facts-all

pub returns-clause-induced : goal.returns-clause-induced
returns-clause-induced c = induce-same
