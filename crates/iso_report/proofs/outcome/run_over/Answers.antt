use Rattle.std.proofs.Common.{refl}
use Rattle.report_steps.specs.Stages.{RefusesText, IsRead}
use Rattle.report_steps.specs.Steps.{never}
use Rattle.iso_report.specs.Outcome.{IsFound, AfterText}
use Rattle.iso_report.proofs.EndingLemmas.{grown_by_nothing, step-refused, step-ends}
use Rattle.iso_report.proofs.outcome.run_over.Goals as goal

pub after_text-requires : goal.after_text-requires
after_text-requires g c = record { held = rw c.in-Ok-Passed.field-0-is at c.in-Ok-Passed.ensures.ranges }

pub returns-in-Ok-Passed-clause-answer : goal.returns-in-Ok-Passed-clause-answer
returns-in-Ok-Passed-clause-answer g c =
    let passed = rw c.in-Ok-Passed.field-0-is at c.in-Ok-Passed.ensures.answer in
    step-ends RefusesText never IsRead (AfterText (IsFound c.args.job.now _ _)) c.args.bytes.now c.in-Ok-Passed.document passed _ c.after_text.result c.after_text.ensures.answer

pub returns-in-Ok-Refused-clause-answer : goal.returns-in-Ok-Refused-clause-answer
returns-in-Ok-Refused-clause-answer g c =
    (step-refused RefusesText never IsRead (AfterText (IsFound c.args.job.now _ _)) c.args.bytes.now c.in-Ok-Refused.refusal (rw c.in-Ok-Refused.field-0-is at c.in-Ok-Refused.ensures.answer), grown_by_nothing (g.O.Sink.written c.args.out.now), refl)
