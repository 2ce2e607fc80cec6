use Rattle.extra_modes.specs.ExtraSpace.{quantity_of}
use Rattle.extra_modes.specs.ExtraSpaceLaws.{quantity-lawful}
use Rattle.extra_modes.proofs.laws.law_of_extra_spaces.Goals as goal

pub returns-clause-space : goal.returns-clause-space
returns-clause-space c nature g o h orbit = c.law_of_spaces.ensures g o (quantity_of nature) h orbit (quantity-lawful nature)

pub returns-clause-alike : goal.returns-clause-alike
returns-clause-alike c nature g atom o u = c.law_of_one_space.ensures g atom o u (quantity_of nature)
