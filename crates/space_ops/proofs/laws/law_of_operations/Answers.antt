use Rattle.space_ops.specs.OpGroupLaws.{ops-products, ops-determinants}
use Rattle.space_ops.proofs.laws.law_of_operations.Goals as goal

pub returns-clause-products : goal.returns-clause-products
returns-clause-products c = ops-products

pub returns-clause-determinants : goal.returns-clause-determinants
returns-clause-determinants c = ops-determinants
