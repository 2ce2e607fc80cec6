use Rattle.std.proofs.Common.{rules}
use Rattle.cyclo24.specs.Checked.{term}
use Rattle.cyclo24.specs.CheckedLaws.{then_ok, then_err}
use Rattle.cyclo24.proofs.whole.Product.value.Goals as goal

pub returns-in_err-product : goal.returns-in_err-product
unfolding term
returns-in_err-product c = then_err _ _ c.times.ensures c.in_err-product.was (search rules)

pub returns : goal.returns
unfolding term
returns c = then_ok _ _ c.times.ensures c.in_ok-product.was c.times-2.ensures
