use Rattle.std.proofs.Common.{subst, sym, refl}
use Rattle.iso_text.specs.Ranges.{IsInRange}
use Rattle.report_steps.specs.Stages.{RefusesParent, IsParented}
use Rattle.report_steps.specs.Steps.{never}
use Rattle.iso_report.specs.Outcome.{IsFound, AfterParent}
use Rattle.iso_report.proofs.EndingLemmas.{grown_by_nothing, step-refused, step-ends}
use Rattle.iso_report.proofs.outcome.after_text.Goals as goal

pub after_parent-requires : goal.after_parent-requires
after_parent-requires g c =
    let passed = rw c.in-Ok-Passed.field-0-is at c.in-Ok-Passed.ensures in
    record { held = subst IsInRange (sym passed.4) c.requires.held }

pub returns-in-Ok-Passed-clause-answer : goal.returns-in-Ok-Passed-clause-answer
returns-in-Ok-Passed-clause-answer g c =
    let passed = rw c.in-Ok-Passed.field-0-is at c.in-Ok-Passed.ensures in
    step-ends RefusesParent never IsParented (AfterParent (IsFound c.args.job.now _ _)) c.args.document c.in-Ok-Passed.parented passed _ c.after_parent.result c.after_parent.ensures.answer

pub returns-in-Ok-Refused-clause-answer : goal.returns-in-Ok-Refused-clause-answer
returns-in-Ok-Refused-clause-answer g c = (step-refused RefusesParent never IsParented (AfterParent (IsFound c.args.job.now _ _)) c.args.document c.in-Ok-Refused.refusal (rw c.in-Ok-Refused.field-0-is at c.in-Ok-Refused.ensures), grown_by_nothing (g.O.Sink.written c.args.out.now), refl)
