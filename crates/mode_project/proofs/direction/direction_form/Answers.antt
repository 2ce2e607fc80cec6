use Rattle.lin_alg.specs.Rows.{vector}
use Rattle.mode_project.proofs.direction.direction_form.Goals as goal

pub returns-in-Ok-left_in-clause-modes : goal.returns-in-Ok-left_in-clause-modes
returns-in-Ok-left_in-clause-modes g c = c.in-Ok-left_in.ensures.left (vector g.F.Field.field.laws g.F.Field.value c.args.weights.now) c.in-Ok.ensures.range
