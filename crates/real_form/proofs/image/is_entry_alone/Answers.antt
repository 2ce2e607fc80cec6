use Rattle.std.proofs.Common.{sym, ◌∙◌}
use Rattle.real_form.proofs.image.is_entry_alone.Goals as goal

pub returns-then-is_zero-clause-sum : goal.returns-then-is_zero-clause-sum
returns-then-is_zero-clause-sum g c t = g.F.Field.field.laws.is_nought-true (g.F.Field.value c.args.sum) (sym c.is_zero.ensures ∙ c.if-is_zero.true)

pub returns-then-is_zero-clause-factor : goal.returns-then-is_zero-clause-factor
returns-then-is_zero-clause-factor g c t = c.are_equal.ensures.yes t ∙ c.one.ensures
