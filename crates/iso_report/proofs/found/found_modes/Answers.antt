use Rattle.std.proofs.Common.{inl, ◌≡◌, ◌∙◌, refl, inr}
use Rattle.std.specs.List.{concat}
use Rattle.mode_report.specs.Atoms.{RefusesAtoms}
use Rattle.mode_report.specs.Held.{told_in}
use Rattle.mode_report.specs.ModesFound.{AreWideAll, AreToldOf, IsReported, AreModesFound}
use Rattle.mode_report.specs.ModesReport.{modes_text}
use Rattle.mode_report.specs.ReportPieces.{modes_pieces, modes_told}
use Rattle.iso_report.proofs.EndingLemmas.{grown_by_nothing, step-wide, ends-written}
use Rattle.iso_report.proofs.found.found_modes.Goals as goal

pub new-requires : goal.new-requires
new-requires g c = (rw c.in-Ok-Passed.field-0-is at c.in-Ok-Passed.ensures).1

pub returns-in-Ok-clause-answer : goal.returns-in-Ok-clause-answer
returns-in-Ok-clause-answer g c =
    let passed = (rw c.in-Ok-Passed.field-0-is at c.in-Ok-Passed.ensures).0 in
    let d = c.args.file.divided in
    let told = told_in d.file.irreps c.in-Ok-Passed.modes.orbits c.in-Ok-Passed.modes.modes.items in
    let report = c.in-Ok.report in
    let is = c.in-Ok.ensures in
    let same : modes_text report.file.divided.file.format (modes_told report) ≡ modes_text d.file.format told =
    λ i. modes_text (is.file i).divided.file.format (told_in (is.file i).divided.file.irreps (is.found i).orbits (is.found i).modes.items) in
    ends-written (AreModesFound d) (modes_text d.file.format told) (concat (modes_pieces report)) _ c.written.result (inr (inr (told, passed, refl)))
    (c.law_of_modes_pieces.ensures report ∙ same) c.written.ensures.answer

pub returns-in-Ok-Refused-clause-answer : goal.returns-in-Ok-Refused-clause-answer
returns-in-Ok-Refused-clause-answer g c =
    let d = c.args.file.divided in
    (step-wide RefusesAtoms AreWideAll AreToldOf (IsReported d.file.format) d c.in-Ok-Refused.refusal (rw c.in-Ok-Refused.field-0-is at c.in-Ok-Refused.ensures), grown_by_nothing (g.O.Sink.written c.args.out.now), refl)

pub returns-in-Err-new-clause-answer : goal.returns-in-Err-new-clause-answer
returns-in-Err-new-clause-answer g c = inl (grown_by_nothing (g.O.Sink.written c.args.out.now), refl)
