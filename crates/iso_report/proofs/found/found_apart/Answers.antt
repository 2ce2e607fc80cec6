use Rattle.std.proofs.Common.{refl}
use Rattle.std.specs.List.{concat}
use Rattle.apart_report.specs.FoundPairs.{apart_of}
use Rattle.apart_report.specs.ApartPieces.{apart_pieces}
use Rattle.apart_report.specs.ApartFound.{AreApartFound}
use Rattle.iso_report.proofs.EndingLemmas.{grown_by_nothing, ends-written}
use Rattle.iso_report.proofs.found.found_apart.Goals as goal

pub written-requires : goal.written-requires
written-requires g c = (rw c.in-Ok-Passed.field-0-is at c.in-Ok-Passed.ensures).1

pub returns-in-Ok-Passed-clause-answer : goal.returns-in-Ok-Passed-clause-answer
returns-in-Ok-Passed-clause-answer g c =
    let x = c.in-Ok-Passed.pairs in
    let found = (rw c.in-Ok-Passed.field-0-is at c.in-Ok-Passed.ensures).0 in
    ends-written (AreApartFound c.args.file.divided) (apart_of x) (concat (apart_pieces x)) _ c.written.result found (c.law_of_apart_pieces.ensures x) c.written.ensures.answer

pub returns-in-Ok-Refused-clause-answer : goal.returns-in-Ok-Refused-clause-answer
returns-in-Ok-Refused-clause-answer g c = ((rw c.in-Ok-Refused.field-0-is at c.in-Ok-Refused.ensures).0, grown_by_nothing (g.O.Sink.written c.args.out.now), refl)
