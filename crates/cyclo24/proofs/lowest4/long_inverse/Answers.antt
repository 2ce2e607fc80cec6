use Rattle.std.proofs.Common.{rules, ◌∙◌, sym}
use Rattle.cyclo24.specs.CheckedLaws.{answer_err}
use Rattle.cyclo24.specs.Written4Inverse.{inverse}
use Rattle.cyclo24.specs.Lowest4Laws.{inverse_answered, inverse_ready, inverse_answered_by}
use Rattle.cyclo24.proofs.lowest4.long_inverse.Goals as goal

pub returns-in_err-inverse-clause-wide : goal.returns-in_err-inverse-clause-wide
returns-in_err-inverse-clause-wide c = let h = answer_err (inverse c.args.a.now) _ (sym c.written_inverse.ensures ∙ c.in_err-inverse.was) in search (rules, h)

pub upright-requires : goal.upright-requires
upright-requires c = inverse_answered c.args.a.now c.in_ok-inverse.inverse (sym c.written_inverse.ensures ∙ c.in_ok-inverse.was)

pub reduced-requires-clause-narrow : goal.reduced-requires-clause-narrow
reduced-requires-clause-narrow c = (inverse_ready c.args.a.now c.in_ok-inverse.inverse c.upright.result c.requires.nonzero (sym c.written_inverse.ensures ∙ c.in_ok-inverse.was) c.upright.ensures).0

pub reduced-requires-clause-positive : goal.reduced-requires-clause-positive
reduced-requires-clause-positive c = (inverse_ready c.args.a.now c.in_ok-inverse.inverse c.upright.result c.requires.nonzero (sym c.written_inverse.ensures ∙ c.in_ok-inverse.was) c.upright.ensures).1

pub returns-clause-ok : goal.returns-clause-ok
returns-clause-ok c =
    inverse_answered_by c.args.a.now c.in_ok-inverse.inverse c.upright.result c.reduced.result (sym c.written_inverse.ensures ∙ c.in_ok-inverse.was) c.upright.ensures c.reduced.ensures.lowest c.reduced.ensures.narrow
