use Rattle.std.proofs.Common.{subst, length, get_or}
use Rattle.algebra.specs.NumberedGroup.{IsGenerated}
use Rattle.super_group.specs.Quotient.{SupercellGroup, quotient_group}
use Rattle.super_group.proofs.quotient.Quotient.generators.Goals as goal

pub returns-clause-generate : goal.returns-clause-generate
returns-clause-generate c =
    subst (λ (s : SupercellGroup). IsGenerated (quotient_group s) (length c.generators.result.items) (λ i. get_or c.generators.result.items i 0)) c.self.view_is c.generators.ensures.generate
