use Rattle.std.proofs.Common.{rules, ◌∙◌, sym}
use Rattle.cyclo24.specs.CheckedLaws.{answer_ok, answer_err}
use Rattle.cyclo24.specs.Written8Parts.{conjugate}
use Rattle.cyclo24.specs.ExactZ24.{conj}
use Rattle.cyclo24.specs.Z24Calls.{exact_of8}
use Rattle.cyclo24.specs.Z24CallsLaws.{made_low8, made_value8, wide_ok, conj_ready, conj_z24}
use Rattle.cyclo24.proofs.z24.Z24.conj.Goals as goal

pub returns-in_err-conjugate-clause-wide : goal.returns-in_err-conjugate-clause-wide
returns-in_err-conjugate-clause-wide c = let h = answer_err (conjugate c.args.self.fraction) _ (sym c.conjugate.ensures ∙ c.in_err-conjugate.was) in search (rules, h)

pub reduced-requires-clause-narrow : goal.reduced-requires-clause-narrow
reduced-requires-clause-narrow c = (conj_ready c.args.self.fraction c.in_ok-conjugate.conjugate c.args.self.narrow c.args.self.lowest (sym c.conjugate.ensures ∙ c.in_ok-conjugate.was)).0

pub reduced-requires-clause-positive : goal.reduced-requires-clause-positive
reduced-requires-clause-positive c = (conj_ready c.args.self.fraction c.in_ok-conjugate.conjugate c.args.self.narrow c.args.self.lowest (sym c.conjugate.ensures ∙ c.in_ok-conjugate.was)).1

pub invariant_of-result : goal.invariant_of-result
invariant_of-result c = record { narrow = c.reduced.ensures.narrow; lowest = made_low8 c.reduced.result (conj (exact_of8 c.args.self.fraction c.args.self.lowest)) (conj_z24 c.args.self.fraction c.in_ok-conjugate.conjugate c.reduced.result c.args.self.lowest (sym c.conjugate.ensures ∙ c.in_ok-conjugate.was) c.reduced.ensures.lowest) }

pub returns-clause-exact : goal.returns-clause-exact
returns-clause-exact c = let h = made_value8 c.reduced.result (conj (exact_of8 c.args.self.fraction c.args.self.lowest)) (conj_z24 c.args.self.fraction c.in_ok-conjugate.conjugate c.reduced.result c.args.self.lowest (sym c.conjugate.ensures ∙ c.in_ok-conjugate.was) c.reduced.ensures.lowest) in search h

pub returns-clause-wide : goal.returns-clause-wide
returns-clause-wide c = let h = (answer_ok (conjugate c.args.self.fraction) c.in_ok-conjugate.conjugate (sym c.conjugate.ensures ∙ c.in_ok-conjugate.was)).0 in wide_ok _ h
