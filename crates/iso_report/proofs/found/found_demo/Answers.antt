use Rattle.std.proofs.Common.{refl}
use Rattle.std.specs.List.{concat}
use Rattle.demo_report.specs.FoundDemo.{summary_of}
use Rattle.demo_report.specs.DemoPieces.{demo_pieces}
use Rattle.demo_report.specs.DemoFound.{IsDemoFound}
use Rattle.iso_report.proofs.EndingLemmas.{grown_by_nothing, ends-written}
use Rattle.iso_report.proofs.found.found_demo.Goals as goal

pub written-requires : goal.written-requires
written-requires g c = (rw c.in-Ok-Passed.field-0-is at c.in-Ok-Passed.ensures).1

pub returns-in-Ok-Passed-clause-answer : goal.returns-in-Ok-Passed-clause-answer
returns-in-Ok-Passed-clause-answer g c =
    let x = c.in-Ok-Passed.demo in
    let found = (rw c.in-Ok-Passed.field-0-is at c.in-Ok-Passed.ensures).0 in
    ends-written (IsDemoFound c.args.number c.args.file.divided) (summary_of x) (concat (demo_pieces x)) _ c.written.result found (c.law_of_demo_pieces.ensures x) c.written.ensures.answer

pub returns-in-Ok-Refused-clause-answer : goal.returns-in-Ok-Refused-clause-answer
returns-in-Ok-Refused-clause-answer g c = ((rw c.in-Ok-Refused.field-0-is at c.in-Ok-Refused.ensures).0, grown_by_nothing (g.O.Sink.written c.args.out.now), refl)
