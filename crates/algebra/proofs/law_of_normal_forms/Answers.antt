use Rattle.algebra.specs.SolveLaws.{solve}
use Rattle.algebra.proofs.law_of_normal_forms.Goals as goal

pub returns : goal.returns
returns g c = solve
