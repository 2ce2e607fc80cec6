use Rattle.std.proofs.Common.{None, Some}
use Rattle.mode_report.specs.DirectionFound.{IsFoundAlong}
use Rattle.mode_report.specs.ModesFound.{AreModesFound}
use Rattle.iso_report.proofs.FoundLemmas.{modes-ends}
use Rattle.iso_report.proofs.outcome.after_modes.Goals as goal

pub returns-in-None-clause-answer : goal.returns-in-None-clause-answer
returns-in-None-clause-answer g c = modes-ends c.args.direction None AreModesFound c.args.file.divided _ c.found_modes.result c.in-None.is (λ f h. h) c.found_modes.ensures.answer

pub returns-in-Some-clause-answer : goal.returns-in-Some-clause-answer
returns-in-Some-clause-answer g c =
    let x = c.in-Some in
    modes-ends c.args.direction (Some (x.wanted, x.number)) (IsFoundAlong x.wanted x.number) c.args.file.divided _ c.found_along.result x.is (λ f h. h) c.found_along.ensures.answer
