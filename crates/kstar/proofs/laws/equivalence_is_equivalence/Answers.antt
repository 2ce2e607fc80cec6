use Rattle.kstar.specs.WaveVectorLaws.{equivalent-refl, equivalent-sym, equivalent-trans}
use Rattle.kstar.proofs.laws.equivalence_is_equivalence.Goals as goal

pub returns-clause-refl : goal.returns-clause-refl
returns-clause-refl c = equivalent-refl

pub returns-clause-sym : goal.returns-clause-sym
returns-clause-sym c = equivalent-sym

pub returns-clause-trans : goal.returns-clause-trans
returns-clause-trans c = equivalent-trans
