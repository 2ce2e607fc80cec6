use Rattle.lin_alg.specs.Rows.{vector}
use Rattle.lin_alg.proofs.SolvingLemmas.{same-error}
use Rattle.lin_alg.proofs.solving.solve.Goals as goal

pub returns-in-Err-clause-wide : goal.returns-in-Err-clause-wide
returns-in-Err-clause-wide g c e = c.in-Err.ensures.wide (vector g.F.Field.field.laws g.F.Field.value c.args.target.now) (same-error _ _ e)
