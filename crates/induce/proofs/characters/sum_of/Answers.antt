use Rattle.std.proofs.Common.{sym, ◌∙◌}
use Rattle.induce.proofs.SumLemmas.{nought_first, nought_last}
use Rattle.induce.proofs.characters.sum_of.Goals as goal

pub returns-then-is_zero-clause-exact : goal.returns-then-is_zero-clause-exact
returns-then-is_zero-clause-exact g c = nought_first g.F.Field.field.laws (g.F.Field.value c.args.sum) (g.F.Field.value c.args.x) (sym c.is_zero.ensures ∙ c.if-is_zero.true)

pub returns-then-is_zero-2-clause-exact : goal.returns-then-is_zero-2-clause-exact
returns-then-is_zero-2-clause-exact g c = nought_last g.F.Field.field.laws (g.F.Field.value c.args.sum) (g.F.Field.value c.args.x) (sym c.is_zero-2.ensures ∙ c.if-is_zero-2.true)
