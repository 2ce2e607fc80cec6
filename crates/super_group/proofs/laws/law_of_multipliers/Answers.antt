use Rattle.super_group.specs.MultiplierLaws.{multipliers-unique, multiplier-divides}
use Rattle.super_group.proofs.laws.law_of_multipliers.Goals as goal

pub returns-clause-one : goal.returns-clause-one
returns-clause-one c = multipliers-unique

pub returns-clause-divides : goal.returns-clause-divides
returns-clause-divides c = multiplier-divides
