use Rattle.std.proofs.Common.{rules, sym}
use Rattle.cyclo24.specs.Written4.{fraction}
use Rattle.cyclo24.specs.Written8Parts.{imaginary}
use Rattle.cyclo24.specs.CheckedLaws.{then_ok, then_err, answer_give}
use Rattle.cyclo24.proofs.fraction8.Fraction8.imaginary.Goals as goal

pub returns-in_err-a0 : goal.returns-in_err-a0
unfolding imaginary fraction
returns-in_err-a0 c = then_err _ _ c.dot.ensures c.in_err-a0.was (search rules)

pub returns-in_err-a1 : goal.returns-in_err-a1
unfolding imaginary fraction
returns-in_err-a1 c = then_ok _ _ c.dot.ensures c.in_ok-a0.was (then_err _ _ c.dot-2.ensures c.in_err-a1.was (search rules))

pub returns-in_err-a2 : goal.returns-in_err-a2
unfolding imaginary fraction
returns-in_err-a2 c = then_ok _ _ c.dot.ensures c.in_ok-a0.was (then_ok _ _ c.dot-2.ensures c.in_ok-a1.was (then_err _ _ c.times.ensures c.in_err-a2.was (search rules)))

pub returns-in_err-a3 : goal.returns-in_err-a3
unfolding imaginary fraction
returns-in_err-a3 c = then_ok _ _ c.dot.ensures c.in_ok-a0.was (then_ok _ _ c.dot-2.ensures c.in_ok-a1.was (then_ok _ _ c.times.ensures c.in_ok-a2.was (then_err _ _ c.dot-3.ensures c.in_err-a3.was (search rules))))

pub returns-in_err-d : goal.returns-in_err-d
unfolding imaginary fraction
returns-in_err-d c = then_ok _ _ c.dot.ensures c.in_ok-a0.was (then_ok _ _ c.dot-2.ensures c.in_ok-a1.was (then_ok _ _ c.times.ensures c.in_ok-a2.was (then_ok _ _ c.dot-3.ensures c.in_ok-a3.was (then_err _ _ c.times-2.ensures c.in_err-d.was (search rules)))))

pub returns : goal.returns
unfolding imaginary fraction
returns c = then_ok _ _ c.dot.ensures c.in_ok-a0.was (then_ok _ _ c.dot-2.ensures c.in_ok-a1.was (then_ok _ _ c.times.ensures c.in_ok-a2.was (then_ok _ _ c.dot-3.ensures c.in_ok-a3.was (then_ok _ _ c.times-2.ensures c.in_ok-d.was (sym (answer_give _))))))
