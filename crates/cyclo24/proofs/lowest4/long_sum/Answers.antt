use Rattle.std.proofs.Common.{rules, ◌∙◌, sym}
use Rattle.cyclo24.specs.declared.whole.Whole.{Whole}
use Rattle.std.proofs.Common.{ap}
use Rattle.cyclo24.specs.Checked.{answer}
use Rattle.cyclo24.specs.CheckedLaws.{answer_err}
use Rattle.cyclo24.specs.Written4.{sum}
use Rattle.cyclo24.specs.Lowest4Laws.{sum_ready, answered_by}
use Rattle.cyclo24.proofs.lowest4.long_sum.Goals as goal

pub returns-in_err-sum-clause-wide : goal.returns-in_err-sum-clause-wide
returns-in_err-sum-clause-wide c =
    let h = answer_err (sum (record { n = c.args.factor.n }) c.args.a.now c.args.b.now) _ (sym (c.written_sum.ensures ∙ ap (λ (f : Whole). answer (sum f c.args.a.now c.args.b.now)) c.widened.ensures.value) ∙ c.in_err-sum.was) in search (rules, h)

pub reduced-requires-clause-narrow : goal.reduced-requires-clause-narrow
reduced-requires-clause-narrow c = (sum_ready c.widened.result c.args.a.now c.args.b.now c.in_ok-sum.sum c.requires.positive c.requires.positive_other (sym c.written_sum.ensures ∙ c.in_ok-sum.was)).0

pub reduced-requires-clause-positive : goal.reduced-requires-clause-positive
reduced-requires-clause-positive c = (sum_ready c.widened.result c.args.a.now c.args.b.now c.in_ok-sum.sum c.requires.positive c.requires.positive_other (sym c.written_sum.ensures ∙ c.in_ok-sum.was)).1

pub returns-clause-ok : goal.returns-clause-ok
returns-clause-ok c =
    answered_by (sum (record { n = c.args.factor.n }) c.args.a.now c.args.b.now) c.in_ok-sum.sum c.reduced.result (sym (c.written_sum.ensures ∙ ap (λ (f : Whole). answer (sum f c.args.a.now c.args.b.now)) c.widened.ensures.value) ∙ c.in_ok-sum.was) c.reduced.ensures.lowest c.reduced.ensures.narrow
