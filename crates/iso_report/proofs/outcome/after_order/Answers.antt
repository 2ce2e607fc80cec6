use Rattle.std.proofs.Common.{inl, subst, sym, refl}
use Rattle.iso_text.specs.Ranges.{IsInRange}
use Rattle.report_steps.specs.Contexts.{Divided}
use Rattle.report_steps.specs.Stages.{RefusesReps, AreWideReps, HaveReps}
use Rattle.iso_report.specs.Outcome.{IsFound, AfterReps}
use Rattle.iso_report.proofs.EndingLemmas.{grown_by_nothing, step-wide, step-ends}
use Rattle.iso_report.proofs.outcome.after_order.Goals as goal

pub after_reps-requires-clause-held : goal.after_reps-requires-clause-held
after_reps-requires-clause-held g c = (rw c.in-Ok-Passed.field-0-is at c.in-Ok-Passed.ensures).1

pub after_reps-requires-clause-ranged : goal.after_reps-requires-clause-ranged
after_reps-requires-clause-ranged g c =
    let passed = rw c.in-Ok-Passed.field-0-is at c.in-Ok-Passed.ensures in
    subst (λ (d : Divided). IsInRange d.file) (sym passed.0.1) c.requires.ranged

pub returns-in-Ok-Passed-clause-answer : goal.returns-in-Ok-Passed-clause-answer
returns-in-Ok-Passed-clause-answer g c =
    let passed = rw c.in-Ok-Passed.field-0-is at c.in-Ok-Passed.ensures in
    step-ends RefusesReps AreWideReps HaveReps (AfterReps (IsFound c.args.job.now _ _)) c.args.celled.divided c.in-Ok-Passed.represented.divided passed.0 _ c.after_reps.result c.after_reps.ensures.answer

pub returns-in-Ok-Refused-clause-answer : goal.returns-in-Ok-Refused-clause-answer
returns-in-Ok-Refused-clause-answer g c = (step-wide RefusesReps AreWideReps HaveReps (AfterReps (IsFound c.args.job.now _ _)) c.args.celled.divided c.in-Ok-Refused.refusal (rw c.in-Ok-Refused.field-0-is at c.in-Ok-Refused.ensures), grown_by_nothing (g.O.Sink.written c.args.out.now), refl)

pub returns-in-Err-clause-answer : goal.returns-in-Err-clause-answer
returns-in-Err-clause-answer g c = inl (grown_by_nothing (g.O.Sink.written c.args.out.now), refl)
