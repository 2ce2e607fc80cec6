use Rattle.cyclo24.specs.RootsK24Laws.{r2-times-r3}
use Rattle.cyclo24.proofs.laws.law_of_roots.Goals as goal

pub returns-clause-six : goal.returns-clause-six
returns-clause-six c = r2-times-r3
