use Rattle.std.proofs.Common.{refl}
use Rattle.report_steps.specs.FindingLaws.{found-refused, found-next}
use Rattle.report_steps.specs.Steps.{never}
use Rattle.amp_report.specs.Held.{moded_in}
use Rattle.extra_report.specs.ExtraAmpsFound.{RefusesGathering, HaveAmounts, AfterAmounts}
use Rattle.extra_report.specs.FoundExtraAmps.{AreExtraAmpsHeld, extra_amps_of}
use Rattle.extra_report.proofs.amps_found.after_modes.Goals as goal

pub returns-in-Passed : goal.returns-in-Passed
returns-in-Passed c =
    let d = c.args.file.divided in
    let n = c.args.nature in
    let m = moded_in d c.args.orbits c.args.modes.items in
    found-next extra_amps_of AreExtraAmpsHeld (RefusesGathering n) never (HaveAmounts n) (AfterAmounts n d.file.format) m (record { moded = m; amounts = c.in-Passed.amounts }) (refl, rw c.in-Passed.is at c.in_ok-amounts.ensures)
    c.after_amounts.result c.after_amounts.ensures

pub returns-in-Refused : goal.returns-in-Refused
returns-in-Refused c =
    let d = c.args.file.divided in
    let n = c.args.nature in
    found-refused extra_amps_of AreExtraAmpsHeld (RefusesGathering n) never (HaveAmounts n) (AfterAmounts n d.file.format) (moded_in d c.args.orbits c.args.modes.items) c.in-Refused.refusal (rw c.in-Refused.is at c.in_ok-amounts.ensures)
