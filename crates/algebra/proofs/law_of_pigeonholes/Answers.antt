use Rattle.algebra.specs.PigeonholeLaws.{pigeonhole}
use Rattle.algebra.proofs.law_of_pigeonholes.Goals as goal

pub returns : goal.returns
returns c m n f b d = pigeonhole m n (λ i l. f i) b d
