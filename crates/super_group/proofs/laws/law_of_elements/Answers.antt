use Rattle.super_group.specs.ElementLaws.{elements-factored, numbers-multiplied}
use Rattle.super_group.proofs.laws.law_of_elements.Goals as goal

pub returns-clause-factored : goal.returns-clause-factored
returns-clause-factored c = elements-factored

pub returns-clause-multiplied : goal.returns-clause-multiplied
returns-clause-multiplied c = numbers-multiplied
