use Rattle.small_rep.specs.RepCheckLaws.{accepted-small}
use Rattle.small_rep.proofs.checked.CheckedRep.size.Goals as goal

pub returns-clause-small : goal.returns-clause-small
returns-clause-small c p s r = accepted-small p s c.args.self.now.rep r c.rep.ensures.accepted
