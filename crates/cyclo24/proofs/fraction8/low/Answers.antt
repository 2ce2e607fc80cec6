use Rattle.std.proofs.Common.{rules, sym}
use Rattle.cyclo24.specs.Written8.{fraction8}
use Rattle.cyclo24.specs.Written8Products.{low}
use Rattle.cyclo24.specs.CheckedLaws.{then_ok, then_err, answer_give}
use Rattle.cyclo24.proofs.fraction8.low.Goals as goal

pub returns-in_err-c0 : goal.returns-in_err-c0
unfolding low fraction8
returns-in_err-c0 c = then_err _ _ c.less_two.ensures c.in_err-c0.was (search rules)

pub returns-in_err-c1 : goal.returns-in_err-c1
unfolding low fraction8
returns-in_err-c1 c = then_ok _ _ c.less_two.ensures c.in_ok-c0.was (then_err _ _ c.less_two-2.ensures c.in_err-c1.was (search rules))

pub returns-in_err-c2 : goal.returns-in_err-c2
unfolding low fraction8
returns-in_err-c2 c = then_ok _ _ c.less_two.ensures c.in_ok-c0.was (then_ok _ _ c.less_two-2.ensures c.in_ok-c1.was (then_err _ _ c.less_two-3.ensures c.in_err-c2.was (search rules)))

pub returns-in_err-c3 : goal.returns-in_err-c3
unfolding low fraction8
returns-in_err-c3 c = then_ok _ _ c.less_two.ensures c.in_ok-c0.was (then_ok _ _ c.less_two-2.ensures c.in_ok-c1.was (then_ok _ _ c.less_two-3.ensures c.in_ok-c2.was (then_err _ _ c.and_one.ensures c.in_err-c3.was (search rules))))

pub returns-in_err-c4 : goal.returns-in_err-c4
unfolding low fraction8
returns-in_err-c4 c = then_ok _ _ c.less_two.ensures c.in_ok-c0.was (then_ok _ _ c.less_two-2.ensures c.in_ok-c1.was (then_ok _ _ c.less_two-3.ensures c.in_ok-c2.was (then_ok _ _ c.and_one.ensures c.in_ok-c3.was (then_err _ _ c.and_one-2.ensures c.in_err-c4.was (search rules)))))

pub returns-in_err-c5 : goal.returns-in_err-c5
unfolding low fraction8
returns-in_err-c5 c = then_ok _ _ c.less_two.ensures c.in_ok-c0.was (then_ok _ _ c.less_two-2.ensures c.in_ok-c1.was (then_ok _ _ c.less_two-3.ensures c.in_ok-c2.was (then_ok _ _ c.and_one.ensures c.in_ok-c3.was (then_ok _ _ c.and_one-2.ensures c.in_ok-c4.was (then_err _ _ c.and_one-3.ensures c.in_err-c5.was (search rules))))))

pub returns-in_err-c6 : goal.returns-in_err-c6
unfolding low fraction8
returns-in_err-c6 c = then_ok _ _ c.less_two.ensures c.in_ok-c0.was (then_ok _ _ c.less_two-2.ensures c.in_ok-c1.was (then_ok _ _ c.less_two-3.ensures c.in_ok-c2.was (then_ok _ _ c.and_one.ensures c.in_ok-c3.was (then_ok _ _ c.and_one-2.ensures c.in_ok-c4.was (then_ok _ _ c.and_one-3.ensures c.in_ok-c5.was (then_err _ _ c.and_one-4.ensures c.in_err-c6.was (search rules)))))))

pub returns-in_err-c7 : goal.returns-in_err-c7
unfolding low fraction8
returns-in_err-c7 c = then_ok _ _ c.less_two.ensures c.in_ok-c0.was (then_ok _ _ c.less_two-2.ensures c.in_ok-c1.was (then_ok _ _ c.less_two-3.ensures c.in_ok-c2.was (then_ok _ _ c.and_one.ensures c.in_ok-c3.was (then_ok _ _ c.and_one-2.ensures c.in_ok-c4.was (then_ok _ _ c.and_one-3.ensures c.in_ok-c5.was (then_ok _ _ c.and_one-4.ensures c.in_ok-c6.was (then_err _ _ c.and_one-5.ensures c.in_err-c7.was (search rules))))))))

pub returns-in_err-d : goal.returns-in_err-d
unfolding low fraction8
returns-in_err-d c = then_ok _ _ c.less_two.ensures c.in_ok-c0.was (then_ok _ _ c.less_two-2.ensures c.in_ok-c1.was (then_ok _ _ c.less_two-3.ensures c.in_ok-c2.was (then_ok _ _ c.and_one.ensures c.in_ok-c3.was (then_ok _ _ c.and_one-2.ensures c.in_ok-c4.was (then_ok _ _ c.and_one-3.ensures c.in_ok-c5.was (then_ok _ _ c.and_one-4.ensures c.in_ok-c6.was (then_ok _ _ c.and_one-5.ensures c.in_ok-c7.was (then_err _ _ c.times.ensures c.in_err-d.was (search rules)))))))))

pub returns : goal.returns
unfolding low fraction8
returns c = then_ok _ _ c.less_two.ensures c.in_ok-c0.was (then_ok _ _ c.less_two-2.ensures c.in_ok-c1.was (then_ok _ _ c.less_two-3.ensures c.in_ok-c2.was (then_ok _ _ c.and_one.ensures c.in_ok-c3.was (then_ok _ _ c.and_one-2.ensures c.in_ok-c4.was (then_ok _ _ c.and_one-3.ensures c.in_ok-c5.was (then_ok _ _ c.and_one-4.ensures c.in_ok-c6.was (then_ok _ _ c.and_one-5.ensures c.in_ok-c7.was (then_ok _ _ c.times.ensures c.in_ok-d.was (sym (answer_give _))))))))))
