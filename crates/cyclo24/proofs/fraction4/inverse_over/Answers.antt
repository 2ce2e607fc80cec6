use Rattle.std.proofs.Common.{rules, refl, sym}
use Rattle.cyclo24.specs.Written4.{fraction}
use Rattle.cyclo24.specs.Written4Inverse.{inverse_over}
use Rattle.cyclo24.specs.CheckedLaws.{then_ok, then_err, answer_give}
use Rattle.cyclo24.proofs.fraction4.inverse_over.Goals as goal

pub returns-in_err-a0 : goal.returns-in_err-a0
unfolding inverse_over fraction
returns-in_err-a0 c = then_err _ _ c.multiple.ensures c.in_err-a0.was (search rules)

pub returns-in_err-a1 : goal.returns-in_err-a1
unfolding inverse_over fraction
returns-in_err-a1 c = then_ok _ _ c.multiple.ensures c.in_ok-a0.was (then_err _ _ c.multiple-2.ensures c.in_err-a1.was (search rules))

pub returns-in_err-a2 : goal.returns-in_err-a2
unfolding inverse_over fraction
returns-in_err-a2 c = then_ok _ _ c.multiple.ensures c.in_ok-a0.was (then_ok _ _ c.multiple-2.ensures c.in_ok-a1.was (then_err _ _ c.multiple-3.ensures c.in_err-a2.was (search rules)))

pub returns-in_err-a3 : goal.returns-in_err-a3
unfolding inverse_over fraction
returns-in_err-a3 c = then_ok _ _ c.multiple.ensures c.in_ok-a0.was (then_ok _ _ c.multiple-2.ensures c.in_ok-a1.was (then_ok _ _ c.multiple-3.ensures c.in_ok-a2.was (then_err _ _ c.multiple-4.ensures c.in_err-a3.was (search rules))))

pub returns : goal.returns
unfolding inverse_over fraction
returns c = then_ok _ _ c.multiple.ensures c.in_ok-a0.was (then_ok _ _ c.multiple-2.ensures c.in_ok-a1.was (then_ok _ _ c.multiple-3.ensures c.in_ok-a2.was (then_ok _ _ c.multiple-4.ensures c.in_ok-a3.was (then_ok _ _ (sym (answer_give _)) refl (sym (answer_give _))))))
