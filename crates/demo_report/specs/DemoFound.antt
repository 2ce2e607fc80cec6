-- What `demo` finds behind the steps that all jobs share, step by step: the listing of the first irrep,
-- and then the modes of the orbits of the atoms.
--
-- IsReported number d l told f: the summary of a listing and of orbits with their modes
-- AfterClasses, AfterSubspaces, AfterForm, AfterChoice number d: what is found behind a step
-- IsDemoFound number d f: what is found for a generated file of this number
use Rattle.std.specs.Prelude.{◌≡◌, ℕ, List, None}
use Rattle.super_group.specs.Quotient.{order_of}
use Rattle.report_steps.specs.Contexts.{Divided}
use Rattle.report_steps.specs.Finding.{Finding, report}
use Rattle.report_steps.specs.Steps.{After, never}
use Rattle.list_report.specs.Choice.{RefusesChoice, IsChosen}
use Rattle.list_report.specs.Closing.{RefusesSubspaces, AreWideSubspaces, AreFew, RefusesNone, AreWideClasses, IsListed}
use Rattle.list_report.specs.Contexts.{Chosen, Formed, Listed}
use Rattle.list_report.specs.RealForms.{RefusesForm, IsWideFormOf, IsFormed}
use Rattle.mode_report.specs.Atoms.{RefusesAtoms}
use Rattle.mode_report.specs.ModesFound.{AreWideAll, AreToldOf}
use Rattle.mode_report.specs.Told.{OrbitModes}
use Rattle.demo_report.specs.DemoReport.{orders_of, summary_text}

-- the summary of a listing and of orbits with their modes
abbrev pub IsReported : ℕ → Divided → Listed → List OrbitModes → Finding → Type 0
IsReported number d l told f = f ≡ report (summary_text d.file.format number (order_of d.quotient) l.dim (orders_of l.directions) told)

-- the listing, and then the orbits of the atoms and their modes
abbrev pub AfterClasses : ℕ → Divided → Listed → Finding → Type 0
AfterClasses number d l = After RefusesAtoms AreWideAll AreToldOf (IsReported number d l) d

-- the fixed subspaces
abbrev pub AfterSubspaces : ℕ → Divided → Formed → Finding → Type 0
AfterSubspaces number d = After RefusesNone AreWideClasses IsListed (AfterClasses number d)

-- the real form
abbrev pub AfterForm : ℕ → Divided → Formed → Finding → Type 0
AfterForm number d = After RefusesSubspaces AreWideSubspaces AreFew (AfterSubspaces number d)

-- the irrep
abbrev pub AfterChoice : ℕ → Divided → Chosen → Finding → Type 0
AfterChoice number d = After RefusesForm IsWideFormOf IsFormed (AfterForm number d)

-- the first irrep
abbrev pub IsDemoFound : ℕ → Divided → Finding → Type 0
IsDemoFound number d = After (RefusesChoice None) never (IsChosen None) (AfterChoice number d) d
