use Rattle.std.proofs.Common.{ℤ, sym, subst}
use Rattle.space_ops.specs.Matrix.{Vector}
use Rattle.kstar.specs.Star.{IsStarOf}
use Rattle.report_steps.proofs.FactLemmas.{fitted, too-many, wide-induced}
use Rattle.report_steps.proofs.induction.induced_rep.Goals as goal

pub new-requires-clause-star : goal.new-requires-clause-star
new-requires-clause-star c =
    let held = c.requires.star.held.star in
    let P : Vector ℤ → Type 0 = λ k. IsStarOf c.args.quotient.now.parent k c.args.accepted.star in
    subst P (sym held.row) held

pub returns-in-Ok : goal.returns-in-Ok
returns-in-Ok c =
    let new = c.in-Ok.ensures in
    fitted c.args.quotient.now c.args.irrep.now c.args.accepted c.requires c.in-Ok.induced new.of new.star new.rep c.fitting.ensures.real c.fitting.ensures.few c.fitting.result c.fitting.ensures.answer

pub returns-in-Err-TooManyDimensions : goal.returns-in-Err-TooManyDimensions
returns-in-Err-TooManyDimensions c =
    let e = c.in-Err-TooManyDimensions in
    too-many c.args.quotient.now c.args.irrep.now c.args.accepted c.requires e.n (rw e.field-0-is at e.ensures.cause)

pub returns-in-Err-Wide : goal.returns-in-Err-Wide
returns-in-Err-Wide c =
    let e = c.in-Err-Wide in
    wide-induced c.args.quotient.now c.args.irrep.now c.args.accepted c.requires e.family (rw e.field-0-is at e.ensures.cause)
