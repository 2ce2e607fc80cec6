use Rattle.algebra.specs.NumberedGroupLaws.{product-inverse, product-identity, cancel}
use Rattle.algebra.proofs.law_of_groups.Goals as goal

pub returns : goal.returns
returns c g law = record { product-inverse = product-inverse g law; product-identity = product-identity g law; cancel = cancel g law }
