use Rattle.std.proofs.Common.{refl}
use Rattle.std.specs.List.{concat}
use Rattle.couple_report.specs.FoundCouple.{couple_of}
use Rattle.couple_report.specs.CouplePieces.{couple_pieces}
use Rattle.couple_report.specs.CoupleFound.{IsCoupleFound}
use Rattle.iso_report.proofs.EndingLemmas.{grown_by_nothing, ends-written}
use Rattle.iso_report.proofs.found.found_couple.Goals as goal

pub written-requires : goal.written-requires
written-requires g c = (rw c.in-Ok-Passed.field-0-is at c.in-Ok-Passed.ensures).1

pub returns-in-Ok-Passed-clause-answer : goal.returns-in-Ok-Passed-clause-answer
returns-in-Ok-Passed-clause-answer g c =
    let x = c.in-Ok-Passed.coupled in
    let found = (rw c.in-Ok-Passed.field-0-is at c.in-Ok-Passed.ensures).0 in
    ends-written (IsCoupleFound c.args.wanted c.args.other c.args.after c.args.count c.args.file.divided) (couple_of x) (concat (couple_pieces x)) _ c.written.result found (c.law_of_couple_pieces.ensures x) c.written.ensures.answer

pub returns-in-Ok-Refused-clause-answer : goal.returns-in-Ok-Refused-clause-answer
returns-in-Ok-Refused-clause-answer g c = ((rw c.in-Ok-Refused.field-0-is at c.in-Ok-Refused.ensures).0, grown_by_nothing (g.O.Sink.written c.args.out.now), refl)
