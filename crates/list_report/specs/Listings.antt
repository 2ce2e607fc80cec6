-- What `list` finds behind the steps that all jobs share, step by step.
--
-- IsReported after count l f: the report of a page of the listing
-- AfterClosing, AfterForm, AfterChoice next: what is found behind a step
-- IsListedThen wanted next: what is found of the listing of the wanted irrep; IsListFound wanted after count: a page of it
use Rattle.std.specs.Prelude.{◌≡◌, ℕ, List, Option}
use Rattle.report_steps.specs.Contexts.{Divided}
use Rattle.list_report.specs.Contexts.{Chosen, Formed, Listed}
use Rattle.list_report.specs.Choice.{RefusesChoice, IsChosen}
use Rattle.list_report.specs.RealForms.{RefusesForm, IsWideFormOf, IsFormed}
use Rattle.list_report.specs.Closing.{RefusesSubspaces, AreWideSubspaces, AreFew, RefusesNone, AreWideClasses, IsListed}
use Rattle.report_steps.specs.Finding.{Finding, report}
use Rattle.list_report.specs.ListReport.{listing_text}
use Rattle.report_steps.specs.Steps.{After, never}

-- the report of a page of the listing
abbrev pub IsReported : ℕ → Option ℕ → Listed → Finding → Type 0
IsReported after count l f = f ≡ report (listing_text l.format l.name l.quotient l.dim after count l.directions)

-- the classes of the fixed subspaces
abbrev pub AfterClosing : (Listed → Finding → Type 0) → Formed → Finding → Type 0
AfterClosing next = After RefusesNone AreWideClasses IsListed next

-- the fixed subspaces
abbrev pub AfterForm : (Listed → Finding → Type 0) → Formed → Finding → Type 0
AfterForm next = After RefusesSubspaces AreWideSubspaces AreFew (AfterClosing next)

-- the real form
abbrev pub AfterChoice : (Listed → Finding → Type 0) → Chosen → Finding → Type 0
AfterChoice next = After RefusesForm IsWideFormOf IsFormed (AfterForm next)

-- the irrep, and behind it what is found of its listing
abbrev pub IsListedThen : Option (List ℕ) → (Listed → Finding → Type 0) → Divided → Finding → Type 0
IsListedThen wanted next = After (RefusesChoice wanted) never (IsChosen wanted) (AfterChoice next)

-- a page of its listing
abbrev pub IsListFound : Option (List ℕ) → ℕ → Option ℕ → Divided → Finding → Type 0
IsListFound wanted after count = IsListedThen wanted (IsReported after count)
