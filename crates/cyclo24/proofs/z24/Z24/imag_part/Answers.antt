use Rattle.std.proofs.Common.{rules, ◌∙◌, sym}
use Rattle.cyclo24.specs.CheckedLaws.{answer_ok, answer_err}
use Rattle.cyclo24.specs.Written8Parts.{imaginary}
use Rattle.cyclo24.specs.ExactZ24.{imag_part}
use Rattle.cyclo24.specs.Z24Calls.{exact_of8}
use Rattle.cyclo24.specs.Z24CallsLaws.{made_low4, made_value4, wide_ok, imag_ready, imag_z24}
use Rattle.cyclo24.proofs.z24.Z24.imag_part.Goals as goal

pub returns-in_err-part-clause-wide : goal.returns-in_err-part-clause-wide
returns-in_err-part-clause-wide c = let h = answer_err (imaginary c.args.self.fraction) _ (sym c.imaginary.ensures ∙ c.in_err-part.was) in search (rules, h)

pub reduced-requires-clause-narrow : goal.reduced-requires-clause-narrow
reduced-requires-clause-narrow c = (imag_ready c.args.self.fraction c.in_ok-part.part c.args.self.lowest (sym c.imaginary.ensures ∙ c.in_ok-part.was)).0

pub reduced-requires-clause-positive : goal.reduced-requires-clause-positive
reduced-requires-clause-positive c = (imag_ready c.args.self.fraction c.in_ok-part.part c.args.self.lowest (sym c.imaginary.ensures ∙ c.in_ok-part.was)).1

pub invariant_of-result : goal.invariant_of-result
invariant_of-result c = record { narrow = c.reduced.ensures.narrow; lowest = made_low4 c.reduced.result (imag_part (exact_of8 c.args.self.fraction c.args.self.lowest)) (imag_z24 c.args.self.fraction c.in_ok-part.part c.reduced.result c.args.self.lowest (sym c.imaginary.ensures ∙ c.in_ok-part.was) c.reduced.ensures.lowest) }

pub returns-clause-exact : goal.returns-clause-exact
returns-clause-exact c = let h = made_value4 c.reduced.result (imag_part (exact_of8 c.args.self.fraction c.args.self.lowest)) (imag_z24 c.args.self.fraction c.in_ok-part.part c.reduced.result c.args.self.lowest (sym c.imaginary.ensures ∙ c.in_ok-part.was) c.reduced.ensures.lowest) in search h

pub returns-clause-wide : goal.returns-clause-wide
returns-clause-wide c = let h = (answer_ok (imaginary c.args.self.fraction) c.in_ok-part.part (sym c.imaginary.ensures ∙ c.in_ok-part.was)).0 in wide_ok _ h
