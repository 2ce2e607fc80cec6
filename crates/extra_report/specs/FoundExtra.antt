-- What is found for `occ` and `axial`, by the program's answer.
--
-- extra_of f: the report that is written of modes
-- IsExtraHeld f: it can be written
-- FindsExtra next answer: the finding is one of next, and modes that passed are held
use Rattle.std.specs.Prelude.{ℕ, List}
use Rattle.report_steps.specs.declared.step.Step.{Step}
use Rattle.report_steps.specs.Finding.{Finding}
use Rattle.report_steps.specs.FoundBy.{FindsBy}
use Rattle.report_steps.specs.IrrepSteps.{Each}
use Rattle.mode_report.specs.Held.{HasSizeBy, told_in}
use Rattle.mode_report.specs.ModesReport.{each_of}
use Rattle.extra_report.specs.ExtraReport.{entries_of, extra_text}
use Rattle.extra_report.specs.declared.found.FoundExtra.{FoundExtra}

-- the report that is written of modes
abbrev pub extra_of : FoundExtra → List ℕ
extra_of f = extra_text f.nature f.file.divided.file.format (told_in f.file.divided.file.irreps f.orbits f.modes.items)

-- modes for each orbit, with so many numbers for each atom
abbrev pub IsExtraHeld : FoundExtra → Type 0
IsExtraHeld f = Each (HasSizeBy (each_of (entries_of f.nature))) f.orbits f.modes.items

-- the finding is one of next, and modes that passed are held
abbrev pub FindsExtra : (Finding → Type 0) → Step FoundExtra → Type 0
FindsExtra = FindsBy extra_of IsExtraHeld
