use Rattle.std.proofs.Common.{refl, ap, ◌∙◌}
use Rattle.std.specs.List.{concat}
use Rattle.mode_report.specs.FoundAlong.{along_text}
use Rattle.mode_report.specs.DirectionFound.{IsFoundAlong}
use Rattle.mode_report.specs.ReportPieces.{along_pieces}
use Rattle.iso_report.proofs.EndingLemmas.{grown_by_nothing, ends-written}
use Rattle.iso_report.proofs.found.found_along.Goals as goal

pub new-requires : goal.new-requires
new-requires g c = (rw c.in-Ok-Passed.field-0-is at c.in-Ok-Passed.ensures).1

pub returns-in-Ok-clause-answer : goal.returns-in-Ok-clause-answer
returns-in-Ok-clause-answer g c =
    let found = (rw c.in-Ok-Passed.field-0-is at c.in-Ok-Passed.ensures).0 in
    let report = c.in-Ok.report in
    ends-written (IsFoundAlong c.args.wanted c.args.number c.args.file.divided) (along_text c.in-Ok-Passed.along) (concat (along_pieces report)) _ c.written.result found
    (c.law_of_along_pieces.ensures report ∙ ap along_text c.in-Ok.ensures.along) c.written.ensures.answer

pub returns-in-Ok-Refused-clause-answer : goal.returns-in-Ok-Refused-clause-answer
returns-in-Ok-Refused-clause-answer g c = ((rw c.in-Ok-Refused.field-0-is at c.in-Ok-Refused.ensures).0, grown_by_nothing (g.O.Sink.written c.args.out.now), refl)
