use Rattle.std.proofs.Common.{rules}
use Rattle.cyclo24.specs.Written4Inverse.{inverse}
use Rattle.cyclo24.specs.CheckedLaws.{then_ok, then_err}
use Rattle.cyclo24.proofs.fraction4.Fraction4.written_inverse.Goals as goal

pub returns-in_err-u : goal.returns-in_err-u
unfolding inverse
returns-in_err-u c = then_err _ _ c.norm_u.ensures c.in_err-u.was (search rules)

pub returns-in_err-v : goal.returns-in_err-v
unfolding inverse
returns-in_err-v c = then_ok _ _ c.norm_u.ensures c.in_ok-u.was (then_err _ _ c.norm_v.ensures c.in_err-v.was (search rules))

pub returns-in_err-n : goal.returns-in_err-n
unfolding inverse
returns-in_err-n c = then_ok _ _ c.norm_u.ensures c.in_ok-u.was (then_ok _ _ c.norm_v.ensures c.in_ok-v.was (then_err _ _ c.norm.ensures c.in_err-n.was (search rules)))

pub returns : goal.returns
unfolding inverse
returns c = then_ok _ _ c.norm_u.ensures c.in_ok-u.was (then_ok _ _ c.norm_v.ensures c.in_ok-v.was (then_ok _ _ c.norm.ensures c.in_ok-n.was (c.inverse_over.ensures)))
