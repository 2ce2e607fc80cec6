-- What the definitions say for a job, watchers and the bytes of a source, step by step in the order of refusals.
--
-- IsChecked d f: what `check` finds; Alone ws new found d f: what is found with no watcher told
-- IsFound job ws new d f: what a job finds behind the steps that all jobs share, with the watchers before and after
-- AfterReps, AfterOrder, AfterPhases, AfterParent, AfterText next: what is found behind a step, where next is found behind all of them
-- IsFoundIn next bytes f: what is found in the bytes of a file
-- AreBytes number source bytes: the bytes of the file that a job is about
-- IsUntold f ws new: a refusal leaves the watchers as they were
-- IsOutcome job ws new source f: f is what the definitions say, and the watchers are left as they say
-- HasOutcome job ws source f: f is what they say
use Rattle.std.specs.Prelude.{◌≡◌, ℕ, List, true, false, Option, Some, None}
use Rattle.iso_text.specs.FileValue.{File}
use Rattle.iso_watch.specs.Watchers.{Watcher}
use Rattle.iso_report.specs.declared.job.Job.{Job}
use Rattle.iso_report.specs.declared.job.Job.TheVariants as job
use Rattle.iso_report.specs.Check.{check_text}
use Rattle.iso_report.specs.Jobs.{generated}
use Rattle.report_steps.specs.Contexts.{Parented, Divided}
use Rattle.list_report.specs.Telling.{IsListTold}
use Rattle.mode_report.specs.ModesFound.{AreModesFound}
use Rattle.mode_report.specs.DirectionFound.{IsFoundAlong}
use Rattle.amp_report.specs.AmpsFound.{AreAmpsFound}
use Rattle.couple_report.specs.CoupleFound.{IsCoupleFound}
use Rattle.couple_report.specs.LinkFound.{IsLinkFound}
use Rattle.extra_report.specs.ExtraFound.{AreExtraFound}
use Rattle.extra_report.specs.ExtraAmpsFound.{AreExtraAmpsFound}
use Rattle.apart_report.specs.ApartFound.{AreApartFound}
use Rattle.demo_files.specs.Demo.{IsDemoFile}
use Rattle.demo_report.specs.DemoFound.{IsDemoFound}
use Rattle.report_steps.specs.IrrepReport.{Facts, AreFacts}
use Rattle.report_steps.specs.Stages.{RefusesText, IsRead, RefusesParent, IsParented, RefusesPhases, HavePhases, RefusesOrder, IsDivided, RefusesReps, AreWideReps, HaveReps, RefusesDimensions, AreWideInduced, HaveInduced}
use Rattle.report_steps.specs.Steps.{After, never}
pub use Rattle.list_report.specs.Telling.{IsUntold}
pub use Rattle.report_steps.specs.Finding.{Finding, report, refused}

-- the report of the parent group, its quotient and the irreps
abbrev pub IsChecked : Divided → Finding → Type 0
IsChecked d f = (facts : List Facts) × AreFacts d.quotient d.file.irreps facts × (f ≡ report (check_text d facts))

-- what is found with no watcher told
abbrev pub Alone : List Watcher → List Watcher → (Divided → Finding → Type 0) → Divided → Finding → Type 0
Alone ws new found d f = found d f × (new ≡ ws)

-- the report of the job: `list` tells the watchers
abbrev pub IsFound : Job → List Watcher → List Watcher → Divided → Finding → Type 0
IsFound job.Check ws new d f = Alone ws new IsChecked d f
IsFound (job.List wanted after count tally) ws new d f = IsListTold wanted after count tally ws new d f
IsFound (job.Modes None) ws new d f = Alone ws new AreModesFound d f
IsFound (job.Modes (Some (wanted, number))) ws new d f = Alone ws new (IsFoundAlong wanted number) d f
IsFound job.Amps ws new d f = Alone ws new AreAmpsFound d f
IsFound (job.Couple wanted other after count) ws new d f = Alone ws new (IsCoupleFound wanted other after count) d f
IsFound (job.Link wanted other) ws new d f = Alone ws new (IsLinkFound wanted other) d f
IsFound (job.Extra nature false) ws new d f = Alone ws new (AreExtraFound nature) d f
IsFound (job.Extra nature true) ws new d f = Alone ws new (AreExtraAmpsFound nature) d f
IsFound job.Apart ws new d f = Alone ws new AreApartFound d f
IsFound (job.Demo number) ws new d f = Alone ws new (IsDemoFound number) d f

abbrev pub AfterReps : (Divided → Finding → Type 0) → Divided → Finding → Type 0
AfterReps next = After RefusesDimensions AreWideInduced HaveInduced next

abbrev pub AfterOrder : (Divided → Finding → Type 0) → Divided → Finding → Type 0
AfterOrder next = After RefusesReps AreWideReps HaveReps (AfterReps next)

abbrev pub AfterPhases : (Divided → Finding → Type 0) → Parented → Finding → Type 0
AfterPhases next = After RefusesOrder never IsDivided (AfterOrder next)

abbrev pub AfterParent : (Divided → Finding → Type 0) → Parented → Finding → Type 0
AfterParent next = After RefusesPhases never HavePhases (AfterPhases next)

abbrev pub AfterText : (Divided → Finding → Type 0) → File → Finding → Type 0
AfterText next = After RefusesParent never IsParented (AfterParent next)

-- what is found in the bytes of a file
abbrev pub IsFoundIn : (Divided → Finding → Type 0) → List ℕ → Finding → Type 0
IsFoundIn next = After RefusesText never IsRead (AfterText next)

-- those of the source, or those of the generated file of a number
abbrev pub AreBytes : Option ℕ → List ℕ → List ℕ → Type 0
AreBytes None source bytes = bytes ≡ source
AreBytes (Some number) source bytes = IsDemoFile number bytes

-- what the definitions say for a job, watchers and the bytes of a source
abbrev pub IsOutcome : Job → List Watcher → List Watcher → List ℕ → Finding → Type 0
IsOutcome job ws new source f = (bytes : List ℕ) × AreBytes (generated job) source bytes × IsFoundIn (IsFound job ws new) bytes f × IsUntold f ws new

-- the same, however the watchers are left
abbrev pub HasOutcome : Job → List Watcher → List ℕ → Finding → Type 0
HasOutcome job ws source f = (new : List Watcher) × IsOutcome job ws new source f
