use Rattle.std.proofs.Common.{refl}
use Rattle.std.specs.List.{concat}
use Rattle.list_report.specs.Telling.{IsListTold}
use Rattle.list_report.specs.ToldPieces.{told_text, told_pieces}
use Rattle.iso_report.proofs.EndingLemmas.{grown_by_nothing, ends-written}
use Rattle.iso_report.proofs.FoundLemmas.{memory-left}
use Rattle.iso_report.proofs.found.found_listing.Goals as goal

pub written-requires : goal.written-requires
written-requires g c = (rw c.in-Ok-Passed.field-0-is at c.in-Ok-Passed.ensures.found).1

pub returns-in-Ok-Passed-clause-answer : goal.returns-in-Ok-Passed-clause-answer
returns-in-Ok-Passed-clause-answer g c =
    let x = c.in-Ok-Passed.told in
    let a = c.args in
    let found = (rw c.in-Ok-Passed.field-0-is at c.in-Ok-Passed.ensures.found).0 in
    ends-written (IsListTold a.wanted a.after a.count a.tally _ _ a.file.divided) (told_text x) (concat (told_pieces x)) _ c.written.result found (c.law_of_told_pieces.ensures x) c.written.ensures.answer

pub returns-in-Ok-Refused-clause-answer : goal.returns-in-Ok-Refused-clause-answer
returns-in-Ok-Refused-clause-answer g c =
    let found = (rw c.in-Ok-Refused.field-0-is at c.in-Ok-Refused.ensures.found).0 in
    (found, grown_by_nothing (g.O.Sink.written c.args.out.now), found.1)

pub returns-in-Err-clause-answer : goal.returns-in-Err-clause-answer
returns-in-Err-clause-answer g c =
    let x = c.args in
    memory-left x.wanted x.after x.count x.tally _ _ x.file.divided (g.O.Sink.written x.out.now) (g.O.Sink.faults x.out.now) c.in-Err.ensures.memory
