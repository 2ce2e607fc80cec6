use Rattle.hall_symbol.specs.RotationLaws.{determinant_one, power_one, direction_kept}
use Rattle.hall_symbol.proofs.laws.law_of_rotations.Goals as goal

pub returns-clause-determinants : goal.returns-clause-determinants
returns-clause-determinants c = determinant_one

pub returns-clause-orders : goal.returns-clause-orders
returns-clause-orders c = power_one

pub returns-clause-axes : goal.returns-clause-axes
returns-clause-axes c = direction_kept
