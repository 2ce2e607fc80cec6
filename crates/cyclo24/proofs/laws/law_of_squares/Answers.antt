use Rattle.cyclo24.specs.RealK24Laws.{k24_is_real}
use Rattle.cyclo24.proofs.laws.law_of_squares.Goals as goal

pub returns : goal.returns
returns c = k24_is_real
