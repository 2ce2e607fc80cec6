use Rattle.std.proofs.Common.{rules}
use Rattle.cyclo24.specs.Written8Products.{product}
use Rattle.cyclo24.specs.CheckedLaws.{then_ok, then_err}
use Rattle.cyclo24.proofs.fraction8.Fraction8.written_product.Goals as goal

pub returns-in_err-high : goal.returns-in_err-high
unfolding product
returns-in_err-high c = then_err _ _ c.high_sums.ensures c.in_err-high.was (search rules)

pub returns : goal.returns
unfolding product
returns c = then_ok _ _ c.high_sums.ensures c.in_ok-high.was (c.low.ensures)
