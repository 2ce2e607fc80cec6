-- What `modes` finds in a file behind the steps that all jobs share.
--
-- AreWideAllBy space family d k: a number of the modes of some orbit of the atoms is wide, where this space is that of its atoms
-- AreToldBy space d told: what is told of the orbits of the atoms
-- AreWideAll, AreToldOf: the same for displacements
-- IsReported format told f: the report
-- AreModesFound d f: what is found: an atom line that is refused, a number that is wide, or the report
use Rattle.std.specs.Prelude.{◌≡◌, ℕ, List}
use Rattle.super_group.specs.Quotient.{SupercellGroup}
use Rattle.wyckoff.specs.Orbit.{OrbitView}
use Rattle.mode_project.specs.AtomSpace.{AtomSpace, displacements}
use Rattle.report_steps.specs.Contexts.{Divided}
use Rattle.report_steps.specs.Finding.{Finding, report}
use Rattle.report_steps.specs.Steps.{After}
use Rattle.mode_report.specs.AllModes.{AreWideOrbitsBy, HaveModesBy}
use Rattle.mode_report.specs.Atoms.{Placed, RefusesAtoms, HaveOrbits}
use Rattle.mode_report.specs.ModesReport.{modes_text}
use Rattle.mode_report.specs.Told.{OrbitModes}

-- no atom line is refused, and a number of the modes of some orbit is wide
abbrev pub AreWideAllBy : (SupercellGroup → OrbitView → AtomSpace) → ℕ → Divided → ℕ → Type 0
AreWideAllBy space family d k = (p : Placed) × HaveOrbits d p × AreWideOrbitsBy space family p k

abbrev pub AreWideAll : Divided → ℕ → Type 0
AreWideAll = AreWideAllBy displacements 5

-- no atom line is refused, and these are the orbits with their modes
abbrev pub AreToldBy : (SupercellGroup → OrbitView → AtomSpace) → Divided → List OrbitModes → Type 0
AreToldBy space d told = (p : Placed) × HaveOrbits d p × HaveModesBy space p told

abbrev pub AreToldOf : Divided → List OrbitModes → Type 0
AreToldOf = AreToldBy displacements

abbrev pub IsReported : ℕ → List OrbitModes → Finding → Type 0
IsReported format told f = f ≡ report (modes_text format told)

abbrev pub AreModesFound : Divided → Finding → Type 0
AreModesFound d = After RefusesAtoms AreWideAll AreToldOf (IsReported d.file.format) d
