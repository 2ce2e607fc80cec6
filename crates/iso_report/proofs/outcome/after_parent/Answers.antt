use Rattle.std.proofs.Common.{inl, subst, sym, refl}
use Rattle.iso_text.specs.Ranges.{IsInRange}
use Rattle.report_steps.specs.Contexts.{Parented}
use Rattle.report_steps.specs.Stages.{RefusesPhases, HavePhases}
use Rattle.report_steps.specs.Steps.{never}
use Rattle.iso_report.specs.Outcome.{IsFound, AfterPhases}
use Rattle.iso_report.proofs.EndingLemmas.{grown_by_nothing, step-refused, step-ends}
use Rattle.iso_report.proofs.outcome.after_parent.Goals as goal

pub after_phases-requires-clause-held : goal.after_phases-requires-clause-held
after_phases-requires-clause-held g c = (rw c.in-Ok-Passed.field-0-is at c.in-Ok-Passed.ensures).1

pub after_phases-requires-clause-ranged : goal.after_phases-requires-clause-ranged
after_phases-requires-clause-ranged g c =
    let passed = rw c.in-Ok-Passed.field-0-is at c.in-Ok-Passed.ensures in
    subst (λ (p : Parented). IsInRange p.file) (sym passed.0.1) c.requires.held

pub returns-in-Ok-Passed-clause-answer : goal.returns-in-Ok-Passed-clause-answer
returns-in-Ok-Passed-clause-answer g c =
    let passed = rw c.in-Ok-Passed.field-0-is at c.in-Ok-Passed.ensures in
    step-ends RefusesPhases never HavePhases (AfterPhases (IsFound c.args.job.now _ _)) c.args.parented c.in-Ok-Passed.starred.parented passed.0 _ c.after_phases.result c.after_phases.ensures.answer

pub returns-in-Ok-Refused-clause-answer : goal.returns-in-Ok-Refused-clause-answer
returns-in-Ok-Refused-clause-answer g c = (step-refused RefusesPhases never HavePhases (AfterPhases (IsFound c.args.job.now _ _)) c.args.parented c.in-Ok-Refused.refusal (rw c.in-Ok-Refused.field-0-is at c.in-Ok-Refused.ensures), grown_by_nothing (g.O.Sink.written c.args.out.now), refl)

pub returns-in-Err-clause-answer : goal.returns-in-Err-clause-answer
returns-in-Err-clause-answer g c = inl (grown_by_nothing (g.O.Sink.written c.args.out.now), refl)
