use Rattle.std.proofs.Common.{true, false}
use Rattle.extra_report.specs.ExtraFound.{AreExtraFound}
use Rattle.extra_report.specs.ExtraAmpsFound.{AreExtraAmpsFound}
use Rattle.iso_report.proofs.FoundLemmas.{extra-ends}
use Rattle.iso_report.proofs.outcome.after_extra.Goals as goal

pub returns-then-amps-clause-answer : goal.returns-then-amps-clause-answer
returns-then-amps-clause-answer g c =
    let n = c.args.nature in
    extra-ends n c.args.amps true (AreExtraAmpsFound n) c.args.file.divided _ c.found_extra_amps.result c.if-amps.true (λ f h. h) c.found_extra_amps.ensures.answer

pub returns-else-amps-clause-answer : goal.returns-else-amps-clause-answer
returns-else-amps-clause-answer g c =
    let n = c.args.nature in
    extra-ends n c.args.amps false (AreExtraFound n) c.args.file.divided _ c.found_extra.result c.if-amps.false (λ f h. h) c.found_extra.ensures.answer
