use Rattle.std.proofs.Common.{inl, subst, sym, refl}
use Rattle.iso_text.specs.Ranges.{IsInRange}
use Rattle.report_steps.specs.Contexts.{Divided}
use Rattle.report_steps.specs.Stages.{RefusesDimensions, AreWideInduced, HaveInduced}
use Rattle.iso_report.specs.Outcome.{IsFound}
use Rattle.iso_report.proofs.EndingLemmas.{grown_by_nothing, step-wide, step-ends}
use Rattle.iso_report.proofs.outcome.after_reps.Goals as goal

pub after_induced-requires-clause-held : goal.after_induced-requires-clause-held
after_induced-requires-clause-held g c = (rw c.in-Ok-Passed.field-0-is at c.in-Ok-Passed.ensures).1

pub after_induced-requires-clause-ranged : goal.after_induced-requires-clause-ranged
after_induced-requires-clause-ranged g c =
    let passed = rw c.in-Ok-Passed.field-0-is at c.in-Ok-Passed.ensures in
    subst (λ (d : Divided). IsInRange d.file) (sym passed.0.1) c.requires.ranged

pub returns-in-Ok-Passed-clause-answer : goal.returns-in-Ok-Passed-clause-answer
returns-in-Ok-Passed-clause-answer g c =
    let passed = rw c.in-Ok-Passed.field-0-is at c.in-Ok-Passed.ensures in
    step-ends RefusesDimensions AreWideInduced HaveInduced (IsFound c.args.job.now _ _) c.args.represented.divided c.in-Ok-Passed.file.divided passed.0 _ c.after_induced.result c.after_induced.ensures.answer

pub returns-in-Ok-Refused-clause-answer : goal.returns-in-Ok-Refused-clause-answer
returns-in-Ok-Refused-clause-answer g c =
    (step-wide RefusesDimensions AreWideInduced HaveInduced (IsFound c.args.job.now _ _) c.args.represented.divided c.in-Ok-Refused.refusal (rw c.in-Ok-Refused.field-0-is at c.in-Ok-Refused.ensures), grown_by_nothing (g.O.Sink.written c.args.out.now), refl)

pub returns-in-Err-clause-answer : goal.returns-in-Err-clause-answer
returns-in-Err-clause-answer g c = inl (grown_by_nothing (g.O.Sink.written c.args.out.now), refl)
