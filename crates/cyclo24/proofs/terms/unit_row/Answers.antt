use Rattle.std.proofs.Common.{◌∙◌}
use Rattle.cyclo24.specs.Terms.{unit8}
use Rattle.cyclo24.specs.TermsLaws.{unit_at, row_two, row_three, row_six}
use Rattle.cyclo24.proofs.terms.unit_row.Goals as goal

pub returns-in-One : goal.returns-in-One
unfolding unit8
returns-in-One c = c.power_row.ensures ∙ unit_at _ _ c.in-One.is

pub returns-in-Z : goal.returns-in-Z
unfolding unit8
returns-in-Z c = c.power_row-in-Z.ensures ∙ unit_at _ _ c.in-Z.is

pub returns-in-I : goal.returns-in-I
unfolding unit8
returns-in-I c = c.power_row-in-I.ensures ∙ unit_at _ _ c.in-I.is

pub returns-in-R2 : goal.returns-in-R2
returns-in-R2 c = row_two ∙ unit_at _ _ c.in-R2.is

pub returns-in-R3 : goal.returns-in-R3
returns-in-R3 c = row_three ∙ unit_at _ _ c.in-R3.is

pub returns-in-R6 : goal.returns-in-R6
returns-in-R6 c = row_six ∙ unit_at _ _ c.in-R6.is
