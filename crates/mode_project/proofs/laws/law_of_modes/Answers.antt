use Rattle.mode_project.specs.ModeLaws.{modes-count, modes-independent, modes-span, modes-sums}
use Rattle.mode_project.proofs.laws.law_of_modes.Goals as goal

pub returns-clause-count : goal.returns-clause-count
returns-clause-count g c = modes-count g.F.Field.field.laws

pub returns-clause-independent : goal.returns-clause-independent
returns-clause-independent g c = modes-independent g.F.Field.field.laws

pub returns-clause-spanning : goal.returns-clause-spanning
returns-clause-spanning g c = modes-span g.F.Field.field.laws

pub returns-clause-sums : goal.returns-clause-sums
returns-clause-sums g c = modes-sums g.F.Field.field.laws
