-- What `occ` and `axial` find in a file behind the steps that all jobs share.
--
-- IsReported nature format told f: the report
-- AreExtraFound nature d f: what is found: an atom line that is refused, a number that is wide, or the report
use Rattle.std.specs.Prelude.{◌≡◌, ℕ, List}
use Rattle.extra_modes.specs.declared.nature.Nature.{Nature}
use Rattle.extra_modes.specs.ExtraSpace.{extra_space}
use Rattle.report_steps.specs.Contexts.{Divided}
use Rattle.report_steps.specs.Finding.{Finding, report}
use Rattle.report_steps.specs.Steps.{After}
use Rattle.mode_report.specs.Atoms.{RefusesAtoms}
use Rattle.mode_report.specs.ModesFound.{AreWideAllBy, AreToldBy}
use Rattle.mode_report.specs.Told.{OrbitModes}
use Rattle.extra_report.specs.ExtraReport.{extra_text}

abbrev pub IsReported : Nature → ℕ → List OrbitModes → Finding → Type 0
IsReported nature format told f = f ≡ report (extra_text nature format told)

-- the numbers of the modes are family 8
abbrev pub AreExtraFound : Nature → Divided → Finding → Type 0
AreExtraFound nature d f = After RefusesAtoms (AreWideAllBy (extra_space nature) 8) (AreToldBy (extra_space nature)) (IsReported nature d.file.format) d f
