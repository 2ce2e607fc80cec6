-- What `modes` finds for a direction, behind the steps that all jobs share, step by step.
--
-- AreWideAllAlong h d k: a number of the modes that h leaves, of some orbit of the atoms
-- AreToldAlong h d told: what is told of the orbits of the atoms
-- IsReportedAlong format name number told f: the report of the modes of a direction
-- AfterDirection, AfterClasses, AfterSubspaces, AfterForm, AfterChoice: what is found behind a step
-- IsFoundAlong wanted number d f: what is found for the direction of that number of the wanted irrep
use Rattle.std.specs.Prelude.{◌≡◌, ℕ, List, Option}
use Rattle.report_steps.specs.Contexts.{Divided}
use Rattle.report_steps.specs.Finding.{Finding, report}
use Rattle.report_steps.specs.Steps.{After, never}
use Rattle.list_report.specs.Choice.{RefusesChoice, IsChosen}
use Rattle.list_report.specs.Closing.{RefusesSubspaces, AreWideSubspaces, AreFew, RefusesNone, AreWideClasses, IsListed}
use Rattle.list_report.specs.Contexts.{Chosen, Formed, Listed}
use Rattle.list_report.specs.RealForms.{RefusesForm, IsWideFormOf, IsFormed}
use Rattle.mode_report.specs.Atoms.{Placed, RefusesAtoms, HaveOrbits}
use Rattle.mode_report.specs.DirectionModes.{RefusesDirection, IsDirection, AreWideAlong, HaveModesAlong}
use Rattle.mode_report.specs.ModesReport.{direction_modes_text}
use Rattle.mode_report.specs.Told.{OrbitModes}

-- no atom line is refused, and a number of the modes of some orbit is wide
abbrev pub AreWideAllAlong : List ℕ → Divided → ℕ → Type 0
AreWideAllAlong h d k = (p : Placed) × HaveOrbits d p × AreWideAlong h p k

-- no atom line is refused, and these are the orbits with the modes that h leaves
abbrev pub AreToldAlong : List ℕ → Divided → List OrbitModes → Type 0
AreToldAlong h d told = (p : Placed) × HaveOrbits d p × HaveModesAlong h p told

abbrev pub IsReportedAlong : ℕ → List ℕ → ℕ → List OrbitModes → Finding → Type 0
IsReportedAlong format name number told f = f ≡ report (direction_modes_text format name number told)

-- the orbits of the atoms, and the modes that a stabiliser leaves
abbrev pub AfterDirection : Divided → List ℕ → ℕ → List ℕ → Finding → Type 0
AfterDirection d name number h = After RefusesAtoms (AreWideAllAlong h) (AreToldAlong h) (IsReportedAlong d.file.format name number) d

-- the direction of a number, behind the listing
abbrev pub AfterClasses : Divided → ℕ → Listed → Finding → Type 0
AfterClasses d number l = After (RefusesDirection number) never (IsDirection number) (AfterDirection d l.name number) l

abbrev pub AfterSubspaces : Divided → ℕ → Formed → Finding → Type 0
AfterSubspaces d number = After RefusesNone AreWideClasses IsListed (AfterClasses d number)

abbrev pub AfterForm : Divided → ℕ → Formed → Finding → Type 0
AfterForm d number = After RefusesSubspaces AreWideSubspaces AreFew (AfterSubspaces d number)

abbrev pub AfterChoice : Divided → ℕ → Chosen → Finding → Type 0
AfterChoice d number = After RefusesForm IsWideFormOf IsFormed (AfterForm d number)

abbrev pub IsFoundAlong : Option (List ℕ) → ℕ → Divided → Finding → Type 0
IsFoundAlong wanted number d = After (RefusesChoice wanted) never (IsChosen wanted) (AfterChoice d number) d
