use Rattle.lin_alg.specs.Rows.{vector}
use Rattle.mode_project.proofs.SolvedLemmas.{rest-dot, rest-difference}
use Rattle.mode_project.proofs.solved.rest_at.Goals as goal

pub returns-in-Err-clause-wide : goal.returns-in-Err-clause-wide
returns-in-Err-clause-wide g c =
    let f = g.F.Field.field in
    let value = g.F.Field.value in
    rest-dot f value c.args.rows.now (vector f.laws value c.args.target.now) (vector f.laws value c.args.x.now) c.args.c c.in-Err.ensures.wide

pub returns-in-Err-less_at-clause-wide : goal.returns-in-Err-less_at-clause-wide
returns-in-Err-less_at-clause-wide g c =
    let f = g.F.Field.field in
    let value = g.F.Field.value in
    rest-difference f value c.args.rows.now (vector f.laws value c.args.target.now) (vector f.laws value c.args.x.now) c.args.c (value c.in-Ok.sum) c.in-Ok.ensures.exact c.in-Err-less_at.ensures.wide
