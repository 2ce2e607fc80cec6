-- What is found for `occ-amps` and `axial-amps`, by the program's answer.
--
-- extra_amps_of f: the report that is written of amplitudes
-- AreExtraAmpsHeld f: it can be written
-- FindsExtraAmps next answer: the finding is one of next, and amplitudes that passed are held
use Rattle.std.specs.Prelude.{◌≡◌, ℕ, List, length}
use Rattle.report_steps.specs.declared.step.Step.{Step}
use Rattle.report_steps.specs.Finding.{Finding}
use Rattle.report_steps.specs.FoundBy.{FindsBy}
use Rattle.report_steps.specs.IrrepSteps.{Each}
use Rattle.amp_report.specs.Held.{HasRow, told_in}
use Rattle.extra_report.specs.ExtraReport.{extra_amps_text}
use Rattle.extra_report.specs.declared.amps_found.FoundExtraAmps.{FoundExtraAmps}

-- the report that is written of amplitudes
abbrev pub extra_amps_of : FoundExtraAmps → List ℕ
extra_amps_of f = extra_amps_text f.nature f.file.divided.file.format (told_in f.file.divided.file.irreps f.orbits f.modes.items f.rows.items)

-- modes for each orbit, with a number for each
abbrev pub AreExtraAmpsHeld : FoundExtraAmps → Type 0
AreExtraAmpsHeld f = (length f.orbits ≡ length f.modes.items) × Each HasRow f.modes.items f.rows.items

-- the finding is one of next, and amplitudes that passed are held
abbrev pub FindsExtraAmps : (Finding → Type 0) → Step FoundExtraAmps → Type 0
FindsExtraAmps = FindsBy extra_amps_of AreExtraAmpsHeld
