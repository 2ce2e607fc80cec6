use Rattle.std.proofs.Common.{rules, sym}
use Rattle.cyclo24.specs.Written8Parts.{conjugate}
use Rattle.cyclo24.specs.CheckedLaws.{then_ok, then_err, answer_give}
use Rattle.cyclo24.proofs.fraction8.Fraction8.conjugate.Goals as goal

pub returns-in_err-c0 : goal.returns-in_err-c0
unfolding conjugate
returns-in_err-c0 c = then_err _ _ c.plus.ensures c.in_err-c0.was (search rules)

pub returns-in_err-c4 : goal.returns-in_err-c4
unfolding conjugate
returns-in_err-c4 c = then_ok _ _ c.plus.ensures c.in_ok-c0.was (then_err _ _ c.times.ensures c.in_err-c4.was (search rules))

pub returns-in_err-c5 : goal.returns-in_err-c5
unfolding conjugate
returns-in_err-c5 c = then_ok _ _ c.plus.ensures c.in_ok-c0.was (then_ok _ _ c.times.ensures c.in_ok-c4.was (then_err _ _ c.dot.ensures c.in_err-c5.was (search rules)))

pub returns-in_err-c6 : goal.returns-in_err-c6
unfolding conjugate
returns-in_err-c6 c = then_ok _ _ c.plus.ensures c.in_ok-c0.was (then_ok _ _ c.times.ensures c.in_ok-c4.was (then_ok _ _ c.dot.ensures c.in_ok-c5.was (then_err _ _ c.dot-2.ensures c.in_err-c6.was (search rules))))

pub returns-in_err-c7 : goal.returns-in_err-c7
unfolding conjugate
returns-in_err-c7 c = then_ok _ _ c.plus.ensures c.in_ok-c0.was (then_ok _ _ c.times.ensures c.in_ok-c4.was (then_ok _ _ c.dot.ensures c.in_ok-c5.was (then_ok _ _ c.dot-2.ensures c.in_ok-c6.was (then_err _ _ c.dot-3.ensures c.in_err-c7.was (search rules)))))

pub returns : goal.returns
unfolding conjugate
returns c = then_ok _ _ c.plus.ensures c.in_ok-c0.was (then_ok _ _ c.times.ensures c.in_ok-c4.was (then_ok _ _ c.dot.ensures c.in_ok-c5.was (then_ok _ _ c.dot-2.ensures c.in_ok-c6.was (then_ok _ _ c.dot-3.ensures c.in_ok-c7.was (sym (answer_give _))))))
