-- What is found for `amps`, by the program's answer.
--
-- amps_of f: the report that is written of amplitudes
-- AreAmpsHeld f: it can be written
-- FindsAmps next answer: the finding is one of next, and amplitudes that passed are held
use Rattle.std.specs.Prelude.{◌≡◌, ℕ, List, length}
use Rattle.report_steps.specs.declared.step.Step.{Step}
use Rattle.report_steps.specs.Finding.{Finding}
use Rattle.report_steps.specs.FoundBy.{FindsBy}
use Rattle.report_steps.specs.IrrepSteps.{Each}
use Rattle.amp_report.specs.AmpsReport.{amps_text}
use Rattle.amp_report.specs.Held.{HasRow, told_in}
use Rattle.amp_report.specs.declared.found.FoundAmplitudes.{FoundAmplitudes}

-- the report that is written of amplitudes
abbrev pub amps_of : FoundAmplitudes → List ℕ
amps_of f = amps_text f.file.divided.file.format (told_in f.file.divided.file.irreps f.orbits f.modes.items f.rows.items)

-- modes for each orbit, with a number for each
abbrev pub AreAmpsHeld : FoundAmplitudes → Type 0
AreAmpsHeld f = (length f.orbits ≡ length f.modes.items) × Each HasRow f.modes.items f.rows.items

-- the finding is one of next, and amplitudes that passed are held
abbrev pub FindsAmps : (Finding → Type 0) → Step FoundAmplitudes → Type 0
FindsAmps = FindsBy amps_of AreAmpsHeld
