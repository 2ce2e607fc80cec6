use Rattle.std.proofs.Common.{rules, sym}
use Rattle.cyclo24.specs.Written4.{sum_over, fraction}
use Rattle.cyclo24.specs.CheckedLaws.{then_ok, then_err, answer_give}
use Rattle.cyclo24.proofs.fraction4.sum_over.Goals as goal

pub returns-in_err-a0 : goal.returns-in_err-a0
unfolding sum_over fraction
returns-in_err-a0 c = then_err _ _ c.joined.ensures c.in_err-a0.was (search rules)

pub returns-in_err-a1 : goal.returns-in_err-a1
unfolding sum_over fraction
returns-in_err-a1 c = then_ok _ _ c.joined.ensures c.in_ok-a0.was (then_err _ _ c.joined-2.ensures c.in_err-a1.was (search rules))

pub returns-in_err-a2 : goal.returns-in_err-a2
unfolding sum_over fraction
returns-in_err-a2 c = then_ok _ _ c.joined.ensures c.in_ok-a0.was (then_ok _ _ c.joined-2.ensures c.in_ok-a1.was (then_err _ _ c.joined-3.ensures c.in_err-a2.was (search rules)))

pub returns-in_err-a3 : goal.returns-in_err-a3
unfolding sum_over fraction
returns-in_err-a3 c = then_ok _ _ c.joined.ensures c.in_ok-a0.was (then_ok _ _ c.joined-2.ensures c.in_ok-a1.was (then_ok _ _ c.joined-3.ensures c.in_ok-a2.was (then_err _ _ c.joined-4.ensures c.in_err-a3.was (search rules))))

pub returns-in_err-d : goal.returns-in_err-d
unfolding sum_over fraction
returns-in_err-d c = then_ok _ _ c.joined.ensures c.in_ok-a0.was (then_ok _ _ c.joined-2.ensures c.in_ok-a1.was (then_ok _ _ c.joined-3.ensures c.in_ok-a2.was (then_ok _ _ c.joined-4.ensures c.in_ok-a3.was (then_err _ _ c.times.ensures c.in_err-d.was (search rules)))))

pub returns : goal.returns
unfolding sum_over fraction
returns c = then_ok _ _ c.joined.ensures c.in_ok-a0.was (then_ok _ _ c.joined-2.ensures c.in_ok-a1.was (then_ok _ _ c.joined-3.ensures c.in_ok-a2.was (then_ok _ _ c.joined-4.ensures c.in_ok-a3.was (then_ok _ _ c.times.ensures c.in_ok-d.was (sym (answer_give _))))))
