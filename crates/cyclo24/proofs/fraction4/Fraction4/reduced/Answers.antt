use Rattle.std.proofs.Common.{◌∙◌, sym}
use Rattle.cyclo24.specs.Written4Laws.{reduced_narrow, reduced_over_one, reduced_by_one}
use Rattle.cyclo24.proofs.fraction4.Fraction4.reduced.Goals as goal

pub returns-clause-narrow : goal.returns-clause-narrow
returns-clause-narrow c =
    reduced_narrow c.args.self (record { d = c.divided.result; a0 = c.divided-2.result; a1 = c.divided-3.result; a2 = c.divided-4.result; a3 = c.divided-5.result }) c.content-all.result c.requires.narrow
    c.content-all.ensures.value c.divided.ensures c.divided-2.ensures c.divided-3.ensures c.divided-4.ensures c.divided-5.ensures

pub returns-then-is_one-clause-lowest : goal.returns-then-is_one-clause-lowest
returns-then-is_one-clause-lowest c = reduced_over_one c.args.self (sym c.is_one.ensures ∙ c.if-is_one.true)

pub returns-then-is_one-2-clause-lowest : goal.returns-then-is_one-2-clause-lowest
returns-then-is_one-2-clause-lowest c = reduced_by_one c.args.self c.content-all.result c.requires.positive c.content-all.ensures.value (sym c.is_one-2.ensures ∙ c.if-is_one-2.true)
