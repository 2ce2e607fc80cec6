use Rattle.std.proofs.Common.{refl, ap, ◌∙◌}
use Rattle.std.specs.List.{concat}
use Rattle.extra_report.specs.FoundExtra.{extra_of}
use Rattle.extra_report.specs.ExtraFound.{AreExtraFound}
use Rattle.extra_report.specs.ExtraPieces.{extra_pieces}
use Rattle.iso_report.proofs.EndingLemmas.{grown_by_nothing, ends-written}
use Rattle.iso_report.proofs.found.found_extra.Goals as goal

pub new-requires : goal.new-requires
new-requires g c = (rw c.in-Ok-Passed.field-0-is at c.in-Ok-Passed.ensures).1

pub returns-in-Ok-clause-answer : goal.returns-in-Ok-clause-answer
returns-in-Ok-clause-answer g c =
    let found = (rw c.in-Ok-Passed.field-0-is at c.in-Ok-Passed.ensures).0 in
    let report = c.in-Ok.report in
    ends-written (AreExtraFound c.args.nature c.args.file.divided) (extra_of c.in-Ok-Passed.extra) (concat (extra_pieces report)) _ c.written.result found
    (c.law_of_extra_pieces.ensures report ∙ ap extra_of c.in-Ok.ensures.found) c.written.ensures.answer

pub returns-in-Ok-Refused-clause-answer : goal.returns-in-Ok-Refused-clause-answer
returns-in-Ok-Refused-clause-answer g c = ((rw c.in-Ok-Refused.field-0-is at c.in-Ok-Refused.ensures).0, grown_by_nothing (g.O.Sink.written c.args.out.now), refl)
