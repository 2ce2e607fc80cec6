use Rattle.std.proofs.Common.{rules, sym}
use Rattle.cyclo24.specs.Written8Products.{high_sums}
use Rattle.cyclo24.specs.CheckedLaws.{then_ok, then_err, answer_give}
use Rattle.cyclo24.proofs.fraction8.high_sums.Goals as goal

pub returns-in_err-s8 : goal.returns-in_err-s8
unfolding high_sums
returns-in_err-s8 c = then_err _ _ c.dot.ensures c.in_err-s8.was (search rules)

pub returns-in_err-s9 : goal.returns-in_err-s9
unfolding high_sums
returns-in_err-s9 c = then_ok _ _ c.dot.ensures c.in_ok-s8.was (then_err _ _ c.dot-2.ensures c.in_err-s9.was (search rules))

pub returns-in_err-s10 : goal.returns-in_err-s10
unfolding high_sums
returns-in_err-s10 c = then_ok _ _ c.dot.ensures c.in_ok-s8.was (then_ok _ _ c.dot-2.ensures c.in_ok-s9.was (then_err _ _ c.dot-3.ensures c.in_err-s10.was (search rules)))

pub returns-in_err-s11 : goal.returns-in_err-s11
unfolding high_sums
returns-in_err-s11 c = then_ok _ _ c.dot.ensures c.in_ok-s8.was (then_ok _ _ c.dot-2.ensures c.in_ok-s9.was (then_ok _ _ c.dot-3.ensures c.in_ok-s10.was (then_err _ _ c.dot-4.ensures c.in_err-s11.was (search rules))))

pub returns-in_err-s12 : goal.returns-in_err-s12
unfolding high_sums
returns-in_err-s12 c = then_ok _ _ c.dot.ensures c.in_ok-s8.was (then_ok _ _ c.dot-2.ensures c.in_ok-s9.was (then_ok _ _ c.dot-3.ensures c.in_ok-s10.was (then_ok _ _ c.dot-4.ensures c.in_ok-s11.was (then_err _ _ c.dot-5.ensures c.in_err-s12.was (search rules)))))

pub returns-in_err-s13 : goal.returns-in_err-s13
unfolding high_sums
returns-in_err-s13 c = then_ok _ _ c.dot.ensures c.in_ok-s8.was (then_ok _ _ c.dot-2.ensures c.in_ok-s9.was (then_ok _ _ c.dot-3.ensures c.in_ok-s10.was (then_ok _ _ c.dot-4.ensures c.in_ok-s11.was (then_ok _ _ c.dot-5.ensures c.in_ok-s12.was (then_err _ _ c.dot-6.ensures c.in_err-s13.was (search rules))))))

pub returns-in_err-s14 : goal.returns-in_err-s14
unfolding high_sums
returns-in_err-s14 c = then_ok _ _ c.dot.ensures c.in_ok-s8.was (then_ok _ _ c.dot-2.ensures c.in_ok-s9.was (then_ok _ _ c.dot-3.ensures c.in_ok-s10.was (then_ok _ _ c.dot-4.ensures c.in_ok-s11.was (then_ok _ _ c.dot-5.ensures c.in_ok-s12.was (then_ok _ _ c.dot-6.ensures c.in_ok-s13.was (then_err _ _ c.dot-7.ensures c.in_err-s14.was (search rules)))))))

pub returns : goal.returns
unfolding high_sums
returns c = then_ok _ _ c.dot.ensures c.in_ok-s8.was (then_ok _ _ c.dot-2.ensures c.in_ok-s9.was (then_ok _ _ c.dot-3.ensures c.in_ok-s10.was (then_ok _ _ c.dot-4.ensures c.in_ok-s11.was (then_ok _ _ c.dot-5.ensures c.in_ok-s12.was (then_ok _ _ c.dot-6.ensures c.in_ok-s13.was (then_ok _ _ c.dot-7.ensures c.in_ok-s14.was (sym (answer_give _))))))))
