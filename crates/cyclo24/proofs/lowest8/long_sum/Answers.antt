use Rattle.std.proofs.Common.{rules, ◌∙◌, sym}
use Rattle.cyclo24.specs.CheckedLaws.{answer_err}
use Rattle.cyclo24.specs.Written8.{sum}
use Rattle.cyclo24.specs.Lowest8Laws.{sum_ready, answered_by}
use Rattle.cyclo24.proofs.lowest8.long_sum.Goals as goal

pub returns-in_err-sum-clause-wide : goal.returns-in_err-sum-clause-wide
returns-in_err-sum-clause-wide c =
    let h = answer_err (sum c.args.a.now c.args.b.now) _ (sym (c.written_sum.ensures) ∙ c.in_err-sum.was) in search (rules, h)

pub reduced-requires-clause-narrow : goal.reduced-requires-clause-narrow
reduced-requires-clause-narrow c = (sum_ready c.args.a.now c.args.b.now c.in_ok-sum.sum c.requires.positive c.requires.positive_other (sym c.written_sum.ensures ∙ c.in_ok-sum.was)).0

pub reduced-requires-clause-positive : goal.reduced-requires-clause-positive
reduced-requires-clause-positive c = (sum_ready c.args.a.now c.args.b.now c.in_ok-sum.sum c.requires.positive c.requires.positive_other (sym c.written_sum.ensures ∙ c.in_ok-sum.was)).1

pub returns-clause-ok : goal.returns-clause-ok
returns-clause-ok c =
    answered_by (sum c.args.a.now c.args.b.now) c.in_ok-sum.sum c.reduced.result (sym (c.written_sum.ensures) ∙ c.in_ok-sum.was) c.reduced.ensures.lowest c.reduced.ensures.narrow
