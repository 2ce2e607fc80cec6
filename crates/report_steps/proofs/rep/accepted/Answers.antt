use Rattle.std.proofs.Common.{ℤ, inl, subst, sym}
use Rattle.space_ops.specs.Matrix.{Vector}
use Rattle.kstar.specs.Star.{IsStarOf}
use Rattle.report_steps.proofs.RepLemmas.{rep-accepted, rep-unaccepted}
use Rattle.report_steps.proofs.rep.accepted.Goals as goal

pub read-requires-clause-star : goal.read-requires-clause-star
read-requires-clause-star c = let P : Vector ℤ → Type 0 = λ k. IsStarOf c.args.group.now k c.args.star.now in subst P (sym c.requires.star.row) c.requires.star

pub returns-in-Ok-clause-rep : goal.returns-in-Ok-clause-rep
returns-in-Ok-clause-rep c =
    let group = c.args.group.now in
    let star = c.args.star.now in
    let rep = c.in-Ok.ensures in
    rep-accepted group c.args.irrep.now star c.requires.star c.in-Ok.rep rep.size rep.read c.check.result rep.of c.check.ensures.same (c.check.ensures.small group star rep.of)

pub returns-in-Ok-clause-cause : goal.returns-in-Ok-clause-cause
returns-in-Ok-clause-cause c =
    let group = c.args.group.now in
    let star = c.args.star.now in
    let rep = c.in-Ok.ensures in
    rep-unaccepted group c.args.irrep.now star c.requires.star c.in-Ok.rep rep.size rep.read c.check.result (c.check.ensures.cause group star rep.of)

pub returns-in-Err-clause-cause : goal.returns-in-Err-clause-cause
returns-in-Err-clause-cause c = (c.args.star.now, c.requires.star, inl c.in-Err.ensures.cause)
