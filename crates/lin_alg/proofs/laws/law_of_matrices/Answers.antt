use Rattle.lin_alg.specs.TraceLaws.{trace-cyclic, trace-class}
use Rattle.lin_alg.specs.PhasedLaws.{multiples-product, phases-product}
use Rattle.lin_alg.specs.BlockLaws.{tested-multiply}
use Rattle.lin_alg.proofs.laws.law_of_matrices.Goals as goal

pub returns-clause-cyclic : goal.returns-clause-cyclic
returns-clause-cyclic g c = trace-cyclic g.F.Field.field.laws

pub returns-clause-class : goal.returns-clause-class
returns-clause-class g c = trace-class g.F.Field.field.laws

pub returns-clause-factors : goal.returns-clause-factors
returns-clause-factors g c = multiples-product g.F.Field.field.laws

pub returns-clause-phases : goal.returns-clause-phases
returns-clause-phases g c n root roots = phases-product g.F.Field.field.laws n root roots

pub returns-clause-blocks : goal.returns-clause-blocks
returns-clause-blocks g c = tested-multiply g.F.Field.field.laws
