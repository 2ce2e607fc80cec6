use Rattle.std.proofs.Common.{rules}
use Rattle.cyclo24.specs.Written8Products.{less_two}
use Rattle.cyclo24.specs.CheckedLaws.{then_ok, then_err}
use Rattle.cyclo24.proofs.fraction8.less_two.Goals as goal

pub returns-in_err-sum : goal.returns-in_err-sum
unfolding less_two
returns-in_err-sum c = then_err _ _ c.dot.ensures c.in_err-sum.was (search rules)

pub returns : goal.returns
unfolding less_two
returns c = then_ok _ _ c.dot.ensures c.in_ok-sum.was (c.dot-2.ensures)
