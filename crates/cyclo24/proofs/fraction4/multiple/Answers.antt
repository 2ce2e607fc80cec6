use Rattle.std.proofs.Common.{rules}
use Rattle.cyclo24.specs.Written4Inverse.{multiple}
use Rattle.cyclo24.specs.CheckedLaws.{then_ok, then_err}
use Rattle.cyclo24.proofs.fraction4.multiple.Goals as goal

pub returns-in_err-sum : goal.returns-in_err-sum
unfolding multiple
returns-in_err-sum c = then_err _ _ c.sum_of.ensures c.in_err-sum.was (search rules)

pub returns : goal.returns
unfolding multiple
returns c = then_ok _ _ c.sum_of.ensures c.in_ok-sum.was (c.times.ensures)
