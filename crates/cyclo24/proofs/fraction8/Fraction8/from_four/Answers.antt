use Rattle.std.proofs.Common.{rules, sym}
use Rattle.cyclo24.specs.Written8Parts.{from_four}
use Rattle.cyclo24.specs.CheckedLaws.{then_ok, then_err, answer_give}
use Rattle.cyclo24.proofs.fraction8.Fraction8.from_four.Goals as goal

pub returns-in_err-c1 : goal.returns-in_err-c1
unfolding from_four
returns-in_err-c1 c = then_err _ _ c.plus.ensures c.in_err-c1.was (search rules)

pub returns-in_err-c2 : goal.returns-in_err-c2
unfolding from_four
returns-in_err-c2 c = then_ok _ _ c.plus.ensures c.in_ok-c1.was (then_err _ _ c.times.ensures c.in_err-c2.was (search rules))

pub returns-in_err-c5 : goal.returns-in_err-c5
unfolding from_four
returns-in_err-c5 c = then_ok _ _ c.plus.ensures c.in_ok-c1.was (then_ok _ _ c.times.ensures c.in_ok-c2.was (then_err _ _ c.dot.ensures c.in_err-c5.was (search rules)))

pub returns-in_err-c6 : goal.returns-in_err-c6
unfolding from_four
returns-in_err-c6 c = then_ok _ _ c.plus.ensures c.in_ok-c1.was (then_ok _ _ c.times.ensures c.in_ok-c2.was (then_ok _ _ c.dot.ensures c.in_ok-c5.was (then_err _ _ c.times-2.ensures c.in_err-c6.was (search rules))))

pub returns-in_err-c7 : goal.returns-in_err-c7
unfolding from_four
returns-in_err-c7 c = then_ok _ _ c.plus.ensures c.in_ok-c1.was (then_ok _ _ c.times.ensures c.in_ok-c2.was (then_ok _ _ c.dot.ensures c.in_ok-c5.was (then_ok _ _ c.times-2.ensures c.in_ok-c6.was (then_err _ _ c.times-3.ensures c.in_err-c7.was (search rules)))))

pub returns : goal.returns
unfolding from_four
returns c = then_ok _ _ c.plus.ensures c.in_ok-c1.was (then_ok _ _ c.times.ensures c.in_ok-c2.was (then_ok _ _ c.dot.ensures c.in_ok-c5.was (then_ok _ _ c.times-2.ensures c.in_ok-c6.was (then_ok _ _ c.times-3.ensures c.in_ok-c7.was (sym (answer_give _))))))
