use Rattle.iso_cli.proofs.Lines.{rest_unread}
use Rattle.iso_cli.proofs.top.answer_job.Goals as goal

pub returns-in-Some-clause-rest : goal.returns-in-Some-clause-rest
returns-in-Some-clause-rest g c = rest_unread (g.S.Source.left c.args.source.now)
