use Rattle.kstar.specs.MoveLaws.{arms-moved}
use Rattle.kstar.proofs.laws.law_of_moves.Goals as goal

pub returns : goal.returns
returns c = arms-moved
