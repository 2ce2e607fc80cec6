use Rattle.hall_symbol.specs.GeneratorLaws.{order_of-rotation_of, axis_of-named_rotation}
use Rattle.hall_symbol.proofs.laws.law_of_parts.Goals as goal

pub returns-clause-orders : goal.returns-clause-orders
returns-clause-orders c = order_of-rotation_of

pub returns-clause-axes : goal.returns-clause-axes
returns-clause-axes c = axis_of-named_rotation
