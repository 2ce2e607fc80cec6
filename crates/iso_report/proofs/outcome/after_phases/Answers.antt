use Rattle.std.proofs.Common.{inl, subst, sym, refl}
use Rattle.iso_text.specs.Ranges.{IsInRange}
use Rattle.report_steps.specs.Stages.{RefusesOrder, IsDivided}
use Rattle.report_steps.specs.Steps.{never}
use Rattle.iso_report.specs.Outcome.{IsFound, AfterOrder}
use Rattle.iso_report.proofs.EndingLemmas.{grown_by_nothing, step-refused, step-ends}
use Rattle.iso_report.proofs.outcome.after_phases.Goals as goal

pub after_order-requires-clause-held : goal.after_order-requires-clause-held
after_order-requires-clause-held g c = (rw c.in-Ok-Passed.field-0-is at c.in-Ok-Passed.ensures).1

pub after_order-requires-clause-ranged : goal.after_order-requires-clause-ranged
after_order-requires-clause-ranged g c =
    let passed = rw c.in-Ok-Passed.field-0-is at c.in-Ok-Passed.ensures in
    subst IsInRange (sym passed.0.file_is) c.requires.ranged

pub returns-in-Ok-Passed-clause-answer : goal.returns-in-Ok-Passed-clause-answer
returns-in-Ok-Passed-clause-answer g c =
    let passed = rw c.in-Ok-Passed.field-0-is at c.in-Ok-Passed.ensures in
    step-ends RefusesOrder never IsDivided (AfterOrder (IsFound c.args.job.now _ _)) c.args.starred.parented c.in-Ok-Passed.celled.divided passed.0 _ c.after_order.result c.after_order.ensures.answer

pub returns-in-Ok-Refused-clause-answer : goal.returns-in-Ok-Refused-clause-answer
returns-in-Ok-Refused-clause-answer g c = (step-refused RefusesOrder never IsDivided (AfterOrder (IsFound c.args.job.now _ _)) c.args.starred.parented c.in-Ok-Refused.refusal (rw c.in-Ok-Refused.field-0-is at c.in-Ok-Refused.ensures), grown_by_nothing (g.O.Sink.written c.args.out.now), refl)

pub returns-in-Err-clause-answer : goal.returns-in-Err-clause-answer
returns-in-Err-clause-answer g c = inl (grown_by_nothing (g.O.Sink.written c.args.out.now), refl)
