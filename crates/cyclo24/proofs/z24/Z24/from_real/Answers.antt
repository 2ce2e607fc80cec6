use Rattle.std.proofs.Common.{rules, ◌∙◌, sym}
use Rattle.cyclo24.specs.CheckedLaws.{answer_ok, answer_err}
use Rattle.cyclo24.specs.Written8Parts.{from_four}
use Rattle.cyclo24.specs.ExactZ24.{from_real}
use Rattle.cyclo24.specs.Z24Calls.{exact_of4}
use Rattle.cyclo24.specs.Z24CallsLaws.{made_low8, made_value8, wide_ok, from_real_ready, from_real_z24}
use Rattle.cyclo24.proofs.z24.Z24.from_real.Goals as goal

pub returns-in_err-powers-clause-wide : goal.returns-in_err-powers-clause-wide
returns-in_err-powers-clause-wide c = let h = answer_err (from_four c.args.k.fraction) _ (sym c.from_four.ensures ∙ c.in_err-powers.was) in search (rules, h)

pub reduced-requires-clause-narrow : goal.reduced-requires-clause-narrow
reduced-requires-clause-narrow c = (from_real_ready c.args.k.fraction c.in_ok-powers.powers c.args.k.narrow c.args.k.lowest (sym c.from_four.ensures ∙ c.in_ok-powers.was)).0

pub reduced-requires-clause-positive : goal.reduced-requires-clause-positive
reduced-requires-clause-positive c = (from_real_ready c.args.k.fraction c.in_ok-powers.powers c.args.k.narrow c.args.k.lowest (sym c.from_four.ensures ∙ c.in_ok-powers.was)).1

pub invariant_of-result : goal.invariant_of-result
invariant_of-result c = record { narrow = c.reduced.ensures.narrow; lowest = made_low8 c.reduced.result (from_real (exact_of4 c.args.k.fraction c.args.k.lowest)) (from_real_z24 c.args.k.fraction c.in_ok-powers.powers c.reduced.result c.args.k.lowest (sym c.from_four.ensures ∙ c.in_ok-powers.was) c.reduced.ensures.lowest) }

pub returns-clause-exact : goal.returns-clause-exact
returns-clause-exact c = let h = made_value8 c.reduced.result (from_real (exact_of4 c.args.k.fraction c.args.k.lowest)) (from_real_z24 c.args.k.fraction c.in_ok-powers.powers c.reduced.result c.args.k.lowest (sym c.from_four.ensures ∙ c.in_ok-powers.was) c.reduced.ensures.lowest) in search h

pub returns-clause-wide : goal.returns-clause-wide
returns-clause-wide c = let h = (answer_ok (from_four c.args.k.fraction) c.in_ok-powers.powers (sym c.from_four.ensures ∙ c.in_ok-powers.was)).0 in wide_ok _ h
