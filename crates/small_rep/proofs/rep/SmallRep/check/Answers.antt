use Rattle.small_rep.specs.RepCheckLaws.{accepted-small, refused-cause}
use Rattle.small_rep.proofs.rep.SmallRep.check.Goals as goal

pub returns-in-Ok-clause-small : goal.returns-in-Ok-clause-small
returns-in-Ok-clause-small c p s r = accepted-small p s c.args.self r c.in-Ok.ensures.accepted

pub returns-in-Err-clause-cause : goal.returns-in-Err-clause-cause
returns-in-Err-clause-cause c p s r = refused-cause p s c.args.self r c.in-Err.error c.in-Err.ensures.cause
